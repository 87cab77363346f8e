use Rattle.std.proofs.Common.{◌∙◌}
use Rattle.std.proofs.lemmas.Result.{IfOk-weaker}
use Rattle.scip_site.proofs.SnapshotOutcomeLemmas.{in_text, no_text}
use Rattle.scip_site.proofs.snapshot_outcome.outcome_with.Goals as goal

pub returns-in-Ok : goal.returns-in-Ok
returns-in-Ok c =
    IfOk-weaker c.text_of.result _ _
    (λ o e. e ∙ in_text c.args.asked.now.queries.now c.args.asked.now.number c.args.bytes.now c.in-Ok.source.now
    c.in-Ok.ensures.cases.0 c.in-Ok.ensures.cases.1)
    c.text_of.ensures

pub returns-in-Err : goal.returns-in-Err
returns-in-Err c =
    no_text c.args.asked.now.queries.now c.args.asked.now.number c.args.bytes.now c.in-Err.ensures.cases.0
