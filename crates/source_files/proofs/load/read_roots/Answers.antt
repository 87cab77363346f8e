use Rattle.std.proofs.Common.{◌∙◌, ◌++◌, ◌+◌, [], ◌∷◌, map, take, drop, ap, sym, subst, string_bytes}
use Rattle.std.proofs.lemmas.List.{map_more}
use Rattle.std.proofs.lemmas.Result.{err_from_is_err_and}
use Rattle.source_files.specs.Roots.{AreFilesBelow}
use Rattle.source_files.specs.RootFaults.{MayStop}
use Rattle.source_files.proofs.LoadLemmas.{root_more, stop_below, parted_at}
use Rattle.source_files.proofs.load.read_roots.Goals as goal

pub returns-in_err-below-clause-err : goal.returns-in_err-below-clause-err
returns-in_err-below-clause-err g c =
    let p = err_from_is_err_and c.from_residual.result c.from_residual.ensures.1 in
    let lists = g.F.ReadFiles.lists c.args.readers.now.files.now in
    let gives = g.F.ReadFiles.gives c.args.readers.now.files.now in
    let leaves_out = c.args.readers.now.leaves_out in
    let roots = c.args.roots.now in
    let number = c.loop-root.root-index in
    let fault = c.in_err-below.field-0.0 in
    rw (p.1, p.2) (stop_below lists gives leaves_out (map string_bytes (take number roots))
    (string_bytes c.root-item.result) (map string_bytes (drop (number + 1) roots)) (map string_bytes roots)
    c.loop-root.each.items fault
    (parted_at string_bytes roots number c.root-item.result c.loop-root-test.true c.root-item.is)
    c.loop-root.invariant
    (subst (λ root. MayStop lists gives leaves_out root fault) c.as_str.ensures.value c.in_err-below.ensures.err))

pub loop-root-preserved : goal.loop-root-preserved
loop-root-preserved g c =
    let lists = g.F.ReadFiles.lists c.args.readers.now.files.now in
    let gives = g.F.ReadFiles.gives c.args.readers.now.files.now in
    let leaves_out = c.args.readers.now.leaves_out in
    let roots = c.args.roots.now in
    let number = c.loop-root.root-index in
    let root = string_bytes c.root-item.result in
    let here = c.in_ok-below.below in
    let next = map_more string_bytes roots number c.root-item.result c.loop-root-test.true
    ∙ ap (λ item. map string_bytes (take number roots) ++ string_bytes item ∷ []) (sym c.root-item.is) in
    let below = subst (λ r. AreFilesBelow lists gives leaves_out r here) c.as_str.ensures.value
    c.in_ok-below.ensures.ok in
    rw (next, c.in_ok-add_root.ensures) (root_more lists gives leaves_out (map string_bytes (take number roots))
    c.loop-root.each.items root here c.loop-root.invariant below)
