use Rattle.std.proofs.Common.{◌++◌, ◌∙◌, ap, map, sym}
use Rattle.std.specs.List.{flat_map}
use Rattle.std.proofs.lemmas.List.{take_all}
use Rattle.std.proofs.lemmas.List.Concat.{flat_map-append}
use Rattle.scip_records.specs.declared.records.Document.{Document}
use Rattle.scip_query.specs.CommandViews.{text_of}
use Rattle.scip_survey.specs.Near.{name_in}
use Rattle.scip_survey.proofs.NearLemmas.{names_all}
use Rattle.scip_survey.proofs.near.names_of.Goals as goal

pub returns : goal.returns
returns c =
    let index = c.args.queries.now in
    c.in_ok-push_names-2.ensures
    ∙ ap (λ l. map text_of c.loop-document.names.items ++ flat_map name_in l) c.external_symbols.ensures
    ∙ ap (λ l. l ++ flat_map name_in index.external_symbols) (c.loop-document.invariant
    ∙ ap (flat_map (λ (d : Document). flat_map name_in d.symbols))
    (take_all c.loop-document.document-index c.documents-document-items.result.now c.loop-document-test.false
    ∙ c.documents-document-items.ensures)
    ∙ names_all index.documents)
    ∙ sym (flat_map-append name_in (flat_map (λ (d : Document). d.symbols) index.documents) index.external_symbols)
