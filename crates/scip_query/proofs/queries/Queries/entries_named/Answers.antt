use Rattle.std.proofs.Common.{◌++◌, ◌∙◌, List, ap, map}
use Rattle.std.specs.List.{flat_map}
use Rattle.std.proofs.lemmas.List.{take_all}
use Rattle.scip_records.specs.declared.records.Document.{Document}
use Rattle.scip_records.specs.declared.records.SymbolInformation.{SymbolInformation}
use Rattle.scip_query.specs.MoreViews.{entry_view}
use Rattle.scip_query.specs.Named.{is_named}
use Rattle.scip_query.specs.Tables.Named.{kept_if}
use Rattle.scip_query.proofs.NamedLemmas.{kept_entries}
use Rattle.scip_query.proofs.queries.Queries.entries_named.Goals as goal

pub returns : goal.returns
returns c =
    let index = c.args.self.now in
    let text = c.args.text.now in
    let kept : List SymbolInformation → List SymbolInformation = λ all. flat_map (kept_if (is_named text)) all in
    let listed : List Document → List SymbolInformation = λ all. flat_map (λ (d : Document). kept d.symbols) all in
    c.in_ok-push_entries-2.ensures
    ∙ ap (λ l. map entry_view c.loop-document.entries.items ++ kept l) c.external_symbols.ensures
    ∙ ap (λ l. l ++ kept index.external_symbols) (c.loop-document.invariant
    ∙ ap listed (take_all c.loop-document.document-index c.documents-document-items.result.now
    c.loop-document-test.false ∙ c.documents-document-items.ensures))
    ∙ kept_entries index text
