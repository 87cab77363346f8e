use Rattle.std.proofs.Common.{◌≤◌, ◌∙◌, ap, subst, sym}
use Rattle.std.proofs.lemmas.Result.{on_ok_weaker}
use Rattle.serde_json.specs.Data.{Data, depth}
use Rattle.serde_json.specs.Read.{max_depth}
use Rattle.serde_json.specs.Written.{has_float}
use Rattle.scip_query.specs.JsonAnswers.{IsReadBack, json_line}
use Rattle.scip_survey.specs.Records.{OfIndex}
use Rattle.scip_survey.proofs.RecordLemmas.{of_metadata}
use Rattle.scip_survey.proofs.ShallowLemmas.{shallow}
use Rattle.scip_survey.proofs.records.push_metadata.Goals as goal

pub push_json_line-requires : goal.push_json_line-requires
push_json_line-requires c = ap has_float c.in_ok-metadata_value.ensures ∙ of_metadata c.args.metadata.now

pub returns-in_ok-metadata_value-clause-reads_back : goal.returns-in_ok-metadata_value-clause-reads_back
returns-in_ok-metadata_value-clause-reads_back c =
    let is = c.in_ok-metadata_value.ensures in
    let few = subst (λ (value : Data). depth value ≤ max_depth) (sym is) (shallow (OfIndex c.args.metadata.now)) in
    on_ok_weaker c.push_json_line.result
    (λ back json. record { back = subst (λ (value : Data). IsReadBack (json_line value) value) is (back few) })
    c.push_json_line.ensures.reads_back
