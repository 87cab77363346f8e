use Rattle.proto_lex.proofs.LexesLemmas.{alike}
use Rattle.proto_lex.proofs.laws.hashes_change_no_lexing.Goals as goal

pub returns : goal.returns
returns c = λ hashes text tokens comments lexes. alike hashes lexes
