use Rattle.std.proofs.Common.{refl}
use Rattle.std.proofs.lemmas.Result.{err_from_is_err_and}
use Rattle.streams.specs.Writers.{writing}
use Rattle.protoscip.specs.Indexes.{recorded_of}
use Rattle.protoscip.proofs.HeadlineFileLemmas.{files_of_build, files_of_built}
use Rattle.protoscip.proofs.IndexingLemmas.{unbuilt, unwritten, written, no_files}
use Rattle.protoscip.proofs.HeadlineNavigableLemmas.{writes}
use Rattle.protoscip.proofs.indexing.index_and_tell.Goals as goal

-- where the tree isn't built

pub returns-in_err-built-clause-indexed : goal.returns-in_err-built-clause-indexed
returns-in_err-built-clause-indexed g c =
    let p = err_from_is_err_and c.from_residual.result c.from_residual.ensures.1 in
    rw (p.1, p.2) (unbuilt (g.C.Chooses.allows c.args.chooser.now) c.args.settings.now c.args.tree.now
    c.args.run.now.workers
    g.W.Sink c.args.out.now c.in_err-built.field-0.0 c.in_err-built.ensures.refused)

pub returns-in_err-built-clause-files : goal.returns-in_err-built-clause-files
returns-in_err-built-clause-files g c =
    let p = err_from_is_err_and c.from_residual.result c.from_residual.ensures.1 in
    rw (p.1, p.2) (files_of_build
    (g.C.Chooses.allows c.args.chooser.now) c.args.settings.now c.args.tree.now c.args.run.now.workers
    c.in_err-built.field-0.0
    c.in_err-built.ensures.refused)

-- where memory doesn't suffice for what is to be said

pub text-requires : goal.text-requires
text-requires g c =
    let of = c.in_ok-built.ensures.built in
    rw c.as_slice.ensures (files_of_built (g.C.Chooses.allows c.args.chooser.now) c.args.settings.now c.args.tree.now
    (record { index = of.index; choices = c.in_ok-built.built.choices; told = c.in_ok-built.built.told }) of.built)

pub returns-in_err-text-clause-indexed : goal.returns-in_err-text-clause-indexed
returns-in_err-text-clause-indexed g c =
    let p = err_from_is_err_and c.from_residual-in_err-text.result c.from_residual-in_err-text.ensures.1 in
    rw (p.1, p.2) (tt, refl)

-- where its index isn't written, or cut off

pub returns-in_err-write_spelled-clause-indexed : goal.returns-in_err-write_spelled-clause-indexed
returns-in_err-write_spelled-clause-indexed g c =
    let p = err_from_is_err_and c.from_residual-in_err-write_spelled.result
    c.from_residual-in_err-write_spelled.ensures.1 in
    let of = c.in_ok-built.ensures.built in
    rw (p.1, p.2) (unwritten (g.C.Chooses.allows c.args.chooser.now) c.args.settings.now c.args.tree.now
    c.args.run.now.workers
    (writing g.W.Sink c.args.out.now c.write_spelled.new.out)
    (record { index = of.index; choices = c.in_ok-built.built.choices; told = c.in_ok-built.built.told }) of.built
    c.in_err-write_spelled.field-0.0
    (c.in_err-write_spelled.ensures of.index of.are))

pub returns-in_err-write_spelled-clause-files : goal.returns-in_err-write_spelled-clause-files
returns-in_err-write_spelled-clause-files g c =
    let p = err_from_is_err_and c.from_residual-in_err-write_spelled.result
    c.from_residual-in_err-write_spelled.ensures.1 in
    let of = c.in_ok-built.ensures.built in
    rw (p.1, p.2) (no_files c.args.tree.now (writing g.W.Sink c.args.out.now c.write_spelled.new.out)
    of.index c.in_err-write_spelled.field-0.0 (c.in_err-write_spelled.ensures of.index of.are))

-- where it is

pub returns-clause-indexed : goal.returns-clause-indexed
returns-clause-indexed g c =
    let of = c.in_ok-built.ensures.built in
    written (g.C.Chooses.allows c.args.chooser.now) c.args.settings.now c.args.tree.now c.args.run.now.workers
    (writing g.W.Sink c.args.out.now c.write_spelled.new.out)
    (record { index = of.index; choices = c.in_ok-built.built.choices; told = c.in_ok-built.built.told }) of.built
    c.in_ok-write_spelled.field-0
    (c.in_ok-write_spelled.ensures of.index of.are)

pub returns-clause-navigable : goal.returns-clause-navigable
returns-clause-navigable g c =
    writes (g.C.Chooses.allows c.args.chooser.now) c.args.settings.now c.args.tree.now c.headline_of_tree.ensures
    (writing g.W.Sink c.args.out.now c.write_spelled.new.out) c.args.run.now.workers
    (recorded_of c.in_ok-built.built.choices c.in_ok-built.built.told)
    (returns-clause-indexed g c)

pub returns-clause-told : goal.returns-clause-told
returns-clause-told g c =
    let of = c.in_ok-built.ensures.built in
    files_of_built (g.C.Chooses.allows c.args.chooser.now) c.args.settings.now c.args.tree.now
    (record { index = of.index; choices = c.in_ok-built.built.choices; told = c.in_ok-built.built.told }) of.built
