use Rattle.std.proofs.Common.{◌∙◌, ap, List, ℕ}
use Rattle.std.specs.Prelude.{Result}
use Rattle.std.specs.Result.{result_map_both}
use Rattle.std.proofs.lemmas.Result.{IfOk-weaker}
use Rattle.scip_records.specs.Texts.{unless_empty}
use Rattle.scip_query.specs.Answers.{Answer, Texts, given}
use Rattle.scip_query.specs.Entries.{entry_of, signature_in}
use Rattle.scip_query.specs.OccurrenceAt.{Subject}
use Rattle.scip_query.specs.declared.miss.Miss.{Miss}
use Rattle.scip_query.proofs.queries.Queries.given_signature.Goals as goal

pub returns-in-Ok : goal.returns-in-Ok
returns-in-Ok c =
    let due : Result Subject Miss → Answer = λ subject. given Texts (result_map_both unless_empty (λ miss. miss)
    (result_map_both (λ (s : Subject). signature_in (entry_of c.args.self.now s)) (λ miss. miss) subject)) in
    IfOk-weaker c.some_text.result _ _
    (λ answer e. e ∙ ap (λ (t : List ℕ). Texts (unless_empty t)) c.signature_of.ensures ∙ ap due c.in-Ok.ensures.is)
    c.some_text.ensures

pub returns-in-Err : goal.returns-in-Err
returns-in-Err c =
    let due : Result Subject Miss → Answer = λ subject. given Texts (result_map_both unless_empty (λ miss. miss)
    (result_map_both (λ (s : Subject). signature_in (entry_of c.args.self.now s)) (λ miss. miss) subject)) in
    ap due c.in-Err.ensures.is
