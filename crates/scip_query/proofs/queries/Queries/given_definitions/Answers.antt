use Rattle.std.proofs.Common.{◌∙◌, ap, List, nat_le}
use Rattle.std.specs.List.{filter, list_all}
use Rattle.scip_records.specs.declared.records.Document.{Document}
use Rattle.scip_query.specs.declared.place.Place.{Place}
use Rattle.scip_query.specs.Answers.{Sites}
use Rattle.scip_query.specs.Nearest.{nearness_listed}
use Rattle.scip_query.proofs.AnswerLemmas.{nearest_given, sites_from}
use Rattle.scip_query.proofs.queries.Queries.given_definitions.Goals as goal

pub returns-in_ok-sites-in-Ok : goal.returns-in_ok-sites-in-Ok
returns-in_ok-sites-in-Ok c =
    let index = c.args.self.now in
    let path = c.args.path.now in
    let near = λ (documents : List Document) (places : List Place). filter (λ place. list_all (λ other. nat_le
    (nearness_listed documents path other) (nearness_listed documents path place)) places) places in
    let found = c.in_ok-near-in-Ok.near.items in
    let are = c.in_ok-near-in-Ok.ensures
    ∙ ap (λ (documents : List Document). near documents c.as_slice.result.now) c.documents.ensures
    ∙ ap (near index.documents) c.as_slice.ensures.value in
    ap Sites (c.in_ok-sites-in-Ok.ensures
    ∙ ap (λ (documents : List Document). sites_from documents c.as_slice-in-Ok.result.now) c.documents-in-Ok.ensures
    ∙ ap (sites_from index.documents) c.as_slice-in-Ok.ensures.value)
    ∙ nearest_given index path c.args.position c.in-Ok.places.items found c.in-Ok.ensures are
