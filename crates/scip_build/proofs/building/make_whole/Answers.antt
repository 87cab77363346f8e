use Rattle.std.proofs.lemmas.Result.{err_from_is_err_and}
use Rattle.scip_build.specs.Documents.{asks_in}
use Rattle.scip_build.specs.Placing.{kept_at}
use Rattle.scip_build.proofs.BuildsRefusalLemmas.{of_linking, linked_of}
use Rattle.scip_build.proofs.building.make_whole.Goals as goal

pub returns-in_err-linker : goal.returns-in_err-linker
returns-in_err-linker g c =
    let p = err_from_is_err_and c.from_residual-in_err-linker.result c.from_residual-in_err-linker.ensures.1 in
    rw (p.1, p.2)
    (of_linking c.args.settings.now.duplicates (asks_in c.args.settings.now) c.args.parsed.now
    c.args.run.now.workers c.in_err-linker.field-0.0
    c.in_err-linker.ensures)

pub make_linked-requires-clause-clear : goal.make_linked-requires-clause-clear
make_linked-requires-clause-clear g c = λ _ _.
    let can = c.in_ok-linker.ensures.1 in
    record { read = can.read; clear = can.clear }

pub returns : goal.returns
returns g c =
    linked_of (kept_at c.args.settings.now.at g.F.DocumentForm.is_kept) c.args.parsed.now c.args.settings.now c.args.run.now.workers
    c.in_ok-linker.ensures.1 c.make_linked.result c.make_linked.ensures
