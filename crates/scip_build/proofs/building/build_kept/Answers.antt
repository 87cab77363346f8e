use Rattle.scip_build.specs.Placing.{kept_at}
use Rattle.scip_build.proofs.BuiltLemmas.{kept_ready, kept_built}
use Rattle.scip_build.proofs.building.build_kept.Goals as goal

pub keep_files-requires : goal.keep_files-requires
keep_files-requires g c = c.requires.tree.own

pub make_kept-requires-clause-tree : goal.make_kept-requires-clause-tree
make_kept-requires-clause-tree g c = λ _ _.
    let of = c.in_ok-kept.ensures in
    rw c.as_slice.ensures.value
    (kept_ready c.kept_files_are_clear.ensures c.args.settings.now.duplicates c.args.all.items
    c.in_ok-kept.kept.parsed.items of.omissions c.requires.tree c.requires.present of.left_out of.kept).tree

pub make_kept-requires-clause-clear : goal.make_kept-requires-clause-clear
make_kept-requires-clause-clear g c = λ _ _.
    let of = c.in_ok-kept.ensures in
    rw c.as_slice.ensures.value
    (kept_ready c.kept_files_are_clear.ensures c.args.settings.now.duplicates c.args.all.items
    c.in_ok-kept.kept.parsed.items of.omissions c.requires.tree c.requires.present of.left_out of.kept).clear

pub returns : goal.returns
returns g c =
    let made = rw c.as_slice.ensures.value at c.in_ok-of_kept.ensures in
    let order = rw (
      c.as_slice-2.ensures.value,
      c.as_slice-3.ensures.value,
      c.as_slice-4.ensures.value,
      c.as_slice-5.ensures.value,
      c.as_slice-6.ensures,
    ) at
    c.in_ok-told.ensures in
    rw c.from_vec.ensures
    (kept_built (kept_at c.args.settings.now.at g.F.DocumentForm.is_kept) c.args.all.items
    c.in_ok-kept.kept.parsed.items c.args.settings.now
    c.in_ok-of_kept.of_kept.made c.in_ok-kept.kept.numbers.items c.in_ok-kept.kept.told.items c.in_ok-told.told.items
    c.in_ok-of_kept.of_kept.missing.items c.in_ok-of_kept.of_kept.faults.items
    c.in_ok-of_kept.of_kept.uncertain.items c.requires.present c.requires.skip c.in_ok-kept.ensures made.0 made.1
    made.2 made.3 order)
