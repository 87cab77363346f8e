use Rattle.scip_query.proofs.AnswerLemmas.{plain_text, more_text}
use Rattle.scip_query.proofs.laws.answers_have_their_text.Goals as goal

pub returns : goal.returns
returns c = record { plain = plain_text; more = more_text }
