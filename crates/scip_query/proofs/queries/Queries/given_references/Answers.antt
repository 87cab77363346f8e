use Rattle.std.proofs.Common.{◌∙◌, ap, List}
use Rattle.scip_records.specs.declared.records.Document.{Document}
use Rattle.scip_query.specs.Answers.{Sites}
use Rattle.scip_query.proofs.AnswerLemmas.{references_given, sites_from}
use Rattle.scip_query.proofs.queries.Queries.given_references.Goals as goal

pub returns-in_ok-sites-in-Ok : goal.returns-in_ok-sites-in-Ok
returns-in_ok-sites-in-Ok c =
    let index = c.args.self.now in
    ap Sites (c.in_ok-sites-in-Ok.ensures
    ∙ ap (λ (documents : List Document). sites_from documents c.as_slice.result.now) c.documents.ensures
    ∙ ap (sites_from index.documents) c.as_slice.ensures.value)
    ∙ references_given index c.args.path.now c.args.position c.in-Ok.places.items c.in-Ok.ensures
