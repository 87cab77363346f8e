use Rattle.std.proofs.Common.{◌∙◌, ap, List}
use Rattle.std.specs.List.{filter}
use Rattle.std.proofs.lemmas.Result.{IfOk-weaker}
use Rattle.scip_records.specs.declared.records.Document.{Document}
use Rattle.scip_query.specs.Tables.{defines_listed}
use Rattle.scip_query.specs.Views.{subject_view}
use Rattle.scip_query.proofs.SiteLemmas.{defining_are}
use Rattle.scip_query.proofs.queries.Queries.definitions_of.Goals as goal

pub returns : goal.returns
returns c =
    let index = c.args.self.now in
    let places = c.places_about.result.now in
    IfOk-weaker c.defining.result _ _
    (λ found e. e ∙ ap (λ (l : List Document). filter (defines_listed l) places) c.documents.ensures
    ∙ defining_are index (subject_view c.args.subject.now) places c.places_about.ensures)
    c.defining.ensures
