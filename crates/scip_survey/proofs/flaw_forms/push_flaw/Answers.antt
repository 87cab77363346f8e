use Rattle.std.proofs.Common.{◌≤◌, ◌∙◌, ap, subst, sym}
use Rattle.std.proofs.lemmas.Result.{on_ok_weaker}
use Rattle.serde_json.specs.Data.{Data, depth}
use Rattle.serde_json.specs.Read.{max_depth}
use Rattle.serde_json.specs.Written.{has_float}
use Rattle.scip_query.specs.JsonAnswers.{IsReadBack, json_line}
use Rattle.scip_survey.specs.Views.{flawed_view}
use Rattle.scip_survey.proofs.FlawFormLemmas.{of_flaw}
use Rattle.scip_survey.proofs.ShallowLemmas.{shallow_flaw}
use Rattle.scip_survey.proofs.flaw_forms.push_flaw.Goals as goal

pub push_json_line-requires : goal.push_json_line-requires
push_json_line-requires c = ap has_float c.in_ok-flaw_value.ensures ∙ of_flaw (flawed_view c.args.flawed.now)

pub returns-in_ok-flaw_value-clause-reads_back : goal.returns-in_ok-flaw_value-clause-reads_back
returns-in_ok-flaw_value-clause-reads_back c =
    let is = c.in_ok-flaw_value.ensures in
    let few = subst (λ (value : Data). depth value ≤ max_depth) (sym is)
    (shallow_flaw (flawed_view c.args.flawed.now)) in
    on_ok_weaker c.push_json_line.result
    (λ back json. record { back = subst (λ (value : Data). IsReadBack (json_line value) value) is (back few) })
    c.push_json_line.ensures.reads_back
