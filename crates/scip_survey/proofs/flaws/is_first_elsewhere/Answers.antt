use Rattle.std.proofs.Common.{◌∙◌, List, ap, ap₂}
use Rattle.std.specs.List.{find}
use Rattle.scip_records.specs.declared.records.Document.{Document}
use Rattle.scip_query.specs.Tables.{defines_listed}
use Rattle.scip_query.specs.declared.place.Place.{Place}
use Rattle.scip_survey.specs.Flaws.{is_elsewhere}
use Rattle.scip_survey.proofs.flaws.is_first_elsewhere.Goals as goal

pub returns : goal.returns
returns c =
    c.is_elsewhere.ensures
    ∙ ap (is_elsewhere c.args.looked.number c.args.number) (c.first_defining.ensures
    ∙ ap₂ (λ (documents : List Document) (places : List Place). find (defines_listed documents) places)
    c.documents-documents.ensures c.references_in-places.ensures)
