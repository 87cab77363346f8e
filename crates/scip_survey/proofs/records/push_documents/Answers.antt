use Rattle.std.proofs.Common.{ℕ, List}
use Rattle.std.specs.Prelude.{All}
use Rattle.std.specs.String.{string_bytes}
use Rattle.scip_records.specs.declared.records.Document.{Document}
use Rattle.scip_survey.specs.Records.{ReadsBack, document_records, records_text}
use Rattle.scip_survey.proofs.ReadBackLemmas.{all_read, more_read, more_text}
use Rattle.scip_survey.proofs.records.push_documents.Goals as goal

pub loop-document-preserved : goal.loop-document-preserved
loop-document-preserved c =
    let lines : Document → List ℕ = λ d. records_text c.args.json (document_records d) in
    let Reads : Document → Type 0 = λ d. All ReadsBack (document_records d) in
    let at = c.loop-document.document-index in (
      more_text lines c.args.documents.now at c.document-item.result (string_bytes c.args.text.now)
          (string_bytes c.loop-document.text) (string_bytes c.push_document.new.text) c.loop-document-test.true
          c.document-item.is c.loop-document.invariant.0 c.in_ok-push_document.ensures.text,
      λ json. more_read Reads c.args.documents.now at c.document-item.result c.loop-document-test.true
          c.document-item.is (c.loop-document.invariant.1 json) (c.in_ok-push_document.ensures.reads_back json),
    )

pub returns-clause-reads_back : goal.returns-clause-reads_back
returns-clause-reads_back c = λ json.
    let Reads : Document → Type 0 = λ d. All ReadsBack (document_records d) in
    all_read Reads c.args.documents.now c.loop-document.document-index c.loop-document-test.false
    (c.loop-document.invariant.1 json)
