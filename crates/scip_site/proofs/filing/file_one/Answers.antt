use Rattle.std.proofs.Common.{refl, subst, ℕ, List, []}
use Rattle.std.proofs.lemmas.Result.{err_from_is_err_and}
use Rattle.source_files.specs.Makers.{making}
use Rattle.scip_site.specs.Snapshots.{IsOutcome, outcome_view}
use Rattle.scip_site.specs.Showing.{AreFiled, AreFiledButOne, Goes}
use Rattle.scip_site.proofs.SnapshotShowLemmas.{makes_none, shown_so, left_out_so}
use Rattle.scip_site.proofs.filing.file_one.Goals as goal

pub returns-in-Ok : goal.returns-in-Ok
returns-in-Ok g c =
    let asked = c.args.asked.now in
    let gives = g.F.ReadFiles.gives c.args.files.now in
    let files = making g.O.MakeFiles c.args.made.now c.file_text.new.made in
    let folder = c.args.folder.now in
    shown_so g.M.Sink gives asked.root.now asked.queries.now asked.number asked.path.now
    (AreFiled files folder) (AreFiledButOne files folder)
    (AreFiled files folder []) c.args.messages.now c.in-Ok.text.items
    (subst (λ o. IsOutcome gives asked.root.now asked.queries.now asked.number asked.path.now (outcome_view o))
    c.in-Ok.is c.in_ok-text.ensures)
    c.file_text.result
    (subst (λ (t : List ℕ). Goes (AreFiled files folder) (AreFiledButOne files folder)
    (AreFiled files folder []) asked.path.now t c.file_text.result)
    c.as_slice.ensures.value c.file_text.ensures)

pub returns-in-Err : goal.returns-in-Err
returns-in-Err g c =
    let asked = c.args.asked.now in
    let gives = g.F.ReadFiles.gives c.args.files.now in
    let files = making g.O.MakeFiles c.args.made.now c.args.made.now in
    let folder = c.args.folder.now in
    left_out_so g.M.Sink gives asked.root.now asked.queries.now asked.number asked.path.now
    (AreFiled files folder) (AreFiledButOne files folder) (AreFiled files folder []) c.args.messages.now c.in-Err.left
    (subst (λ o. IsOutcome gives asked.root.now asked.queries.now asked.number asked.path.now (outcome_view o))
    c.in-Err.is c.in_ok-text.ensures)
    (makes_none (g.O.MakeFiles.made c.args.made.now)) (makes_none (g.O.MakeFiles.made c.args.made.now))
    c.tell.new.messages c.tell.result
    c.tell.ensures

pub returns-in_err-text : goal.returns-in_err-text
returns-in_err-text g c =
    let p = err_from_is_err_and c.from_residual.result c.from_residual.ensures.1 in
    rw (p.1, p.2) (makes_none (g.O.MakeFiles.made c.args.made.now), refl)
