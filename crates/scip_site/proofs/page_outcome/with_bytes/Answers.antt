use Rattle.std.proofs.Common.{◌∙◌}
use Rattle.std.proofs.lemmas.Result.{IfOk-weaker}
use Rattle.scip_site.proofs.ReadingLemmas.{in_text, no_text}
use Rattle.scip_site.proofs.page_outcome.with_bytes.Goals as goal

pub returns-in-Ok : goal.returns-in-Ok
returns-in-Ok c =
    IfOk-weaker c.in_unit.result _ _
    (λ o e. e ∙ in_text c.args.document.now c.args.bytes.now c.in-Ok.source.now c.in-Ok.ensures.cases.0
    c.in-Ok.ensures.cases.1)
    c.in_unit.ensures

pub returns-in-Err : goal.returns-in-Err
returns-in-Err c = no_text c.args.document.now c.args.bytes.now c.in-Err.ensures.cases.0
