use Rattle.std.proofs.Common.{◌∙◌, ap, sym}
use Rattle.std.specs.Prelude.{option_copied}
use Rattle.scip_survey.proofs.ReadBackLemmas.{found_read}
use Rattle.scip_survey.proofs.records.document_text.Goals as goal

pub returns-in_ok-push_document-in-Some-clause-reads_back :
    goal.returns-in_ok-push_document-in-Some-clause-reads_back
returns-in_ok-push_document-in-Some-clause-reads_back c = λ json.
    found_read _ _ (sym (ap option_copied c.in-Some.is) ∙ c.document.ensures)
    (c.in_ok-push_document-in-Some.ensures.reads_back json)
