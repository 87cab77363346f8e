use Rattle.std.proofs.Common.{◌≤◌, ◌∙◌, ap, subst, sym}
use Rattle.std.proofs.lemmas.Result.{IfOk-weaker}
use Rattle.std.specs.String.{string_bytes}
use Rattle.serde_json.specs.Data.{Data, depth}
use Rattle.serde_json.specs.Read.{max_depth}
use Rattle.serde_json.specs.Written.{has_float}
use Rattle.scip_query.specs.JsonAnswers.{IsReadBack}
use Rattle.scip_query.specs.MoreViews.{answer_view}
use Rattle.scip_query.proofs.JsonLemmas.{of_answer, shallow}
use Rattle.scip_query.proofs.json_answer.json_of.Goals as goal

pub json_line_of-requires : goal.json_line_of-requires
json_line_of-requires c = ap has_float c.in_ok-value.ensures ∙ of_answer (answer_view c.args.answer.now)

pub returns-clause-reads_back : goal.returns-clause-reads_back
returns-clause-reads_back c =
    let is = c.in_ok-value.ensures in
    IfOk-weaker c.json_line_of.result _ _
    (λ line back. subst (λ (value : Data). IsReadBack (string_bytes line) value) is
    (back (subst (λ (value : Data). depth value ≤ max_depth) (sym is) (shallow (answer_view c.args.answer.now)))))
    c.json_line_of.ensures.reads_back
