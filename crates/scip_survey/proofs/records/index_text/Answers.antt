use Rattle.std.proofs.Common.{◌++◌, ◌∙◌, List, ap, subst}
use Rattle.std.specs.List.{flat_map}
use Rattle.std.specs.Prelude.{All, Option}
use Rattle.std.specs.String.{string_bytes}
use Rattle.scip_records.specs.declared.records.Document.{Document}
use Rattle.scip_records.specs.declared.records.Metadata.{Metadata}
use Rattle.scip_records.specs.declared.records.SymbolInformation.{SymbolInformation}
use Rattle.scip_survey.specs.Records.{OfExternal, ReadsBack, document_records, metadata_records}
use Rattle.scip_survey.specs.Records.{record_text, records_text}
use Rattle.scip_survey.proofs.ReadBackLemmas.{index_read}
use Rattle.scip_survey.proofs.RecordLemmas.{index_text}
use Rattle.scip_survey.proofs.records.index_text.Goals as goal

pub returns-clause-text : goal.returns-clause-text
returns-clause-text c =
    let json = c.args.json in
    let text = string_bytes c.new-text.result in
    let own = string_bytes c.push_own.new.text in
    let listed = string_bytes c.push_documents.new.text in
    index_text json c.args.queries.now text own listed (string_bytes c.push_externals.new.text) c.new-text.ensures.bytes
    (c.in_ok-push_own.ensures.text
    ∙ ap (λ (m : Option Metadata). text ++ records_text json (metadata_records m)) c.metadata.ensures)
    (c.in_ok-push_documents.ensures.text
    ∙ ap (λ (l : List Document). own ++ flat_map (λ d. records_text json (document_records d)) l) c.documents.ensures)
    (c.in_ok-push_externals.ensures.text
    ∙ ap (λ (l : List SymbolInformation). listed ++ flat_map (λ entry. record_text json (OfExternal entry)) l)
    c.external_symbols.ensures)

pub returns-clause-reads_back : goal.returns-clause-reads_back
returns-clause-reads_back c = λ json.
    index_read c.args.queries.now
    (subst (λ (m : Option Metadata). All ReadsBack (metadata_records m)) c.metadata.ensures
    (c.in_ok-push_own.ensures.reads_back json))
    (subst (All (λ (d : Document). All ReadsBack (document_records d))) c.documents.ensures
    (c.in_ok-push_documents.ensures.reads_back json))
    (subst (All (λ (entry : SymbolInformation). ReadsBack (OfExternal entry))) c.external_symbols.ensures
    (c.in_ok-push_externals.ensures.reads_back json))
