use Rattle.std.proofs.Common.{◌++◌, ◌∙◌, ap₂, ℕ, List}
use Rattle.std.specs.List.{flat_map}
use Rattle.std.specs.String.{string_bytes}
use Rattle.std.proofs.lemmas.Result.{on_ok_weaker}
use Rattle.scip_records.specs.declared.records.Occurrence.{Occurrence}
use Rattle.scip_records.specs.declared.records.SymbolInformation.{SymbolInformation}
use Rattle.scip_survey.specs.Records.{OfOccurrence, OfSymbol, record_text}
use Rattle.scip_survey.proofs.ReadBackLemmas.{at_path, document_read}
use Rattle.scip_survey.proofs.RecordLemmas.{document_text}
use Rattle.scip_survey.proofs.records.push_document.Goals as goal

pub returns-clause-text : goal.returns-clause-text
returns-clause-text c =
    let json = c.args.json in
    let before = string_bytes c.args.text.now in
    let heading = string_bytes c.push_heading.new.text in
    let lines = string_bytes c.push_occurrences.new.text in
    let occurring : List ℕ → List Occurrence → List ℕ = λ path all.
    flat_map (λ o. record_text json (OfOccurrence path o)) all in
    let known : List ℕ → List SymbolInformation → List ℕ = λ path all.
    flat_map (λ entry. record_text json (OfSymbol path entry)) all in
    on_ok_weaker c.push_symbols.result
    (λ e. document_text json c.args.document.now before heading lines (string_bytes c.push_symbols.new.text)
    c.in_ok-push_heading.ensures.text
    (c.in_ok-push_occurrences.ensures.text
    ∙ ap₂ (λ path all. heading ++ occurring path all) c.as_str-path.ensures c.as_slice.ensures)
    (e ∙ ap₂ (λ path all. lines ++ known path all) c.as_str-path.ensures c.as_slice-2.ensures))
    c.push_symbols.ensures.text

pub returns-clause-reads_back : goal.returns-clause-reads_back
returns-clause-reads_back c =
    let document = c.args.document.now in
    on_ok_weaker c.push_symbols.result
    (λ known json. document_read document (c.in_ok-push_heading.ensures.reads_back json)
    (at_path OfOccurrence c.as_str-path.result.now document.relative_path c.as_slice.result.now document.occurrences
    c.as_str-path.ensures c.as_slice.ensures (c.in_ok-push_occurrences.ensures.reads_back json))
    (at_path OfSymbol c.as_str-path.result.now document.relative_path c.as_slice-2.result.now document.symbols
    c.as_str-path.ensures c.as_slice-2.ensures (known json)))
    c.push_symbols.ensures.reads_back
