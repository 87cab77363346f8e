use Rattle.std.proofs.Common.{◌≡◌, ◌++◌, take}
use Rattle.std.specs.Prelude.{All, IsTrue}
use Rattle.std.specs.List.{flat_map}
use Rattle.std.specs.String.{string_bytes}
use Rattle.scip_survey.specs.Records.{ReadsBack, document_records, records_text}
use Rattle.scip_survey.proofs.records.push_documents.Given as goal

-- the lines of those so far, each of which is read back in JSON
abbrev pub invariant-loop-document : goal.invariant-loop-document
invariant-loop-document l =
    (string_bytes l.text ≡ string_bytes l.fn.text
    ++ flat_map (λ d. records_text l.json (document_records d)) (take l.document-index l.documents))
    × (IsTrue l.json → All (λ d. All ReadsBack (document_records d)) (take l.document-index l.documents))
