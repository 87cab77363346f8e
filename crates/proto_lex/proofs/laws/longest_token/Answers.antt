use Rattle.proto_lex.proofs.LexesLongestLemmas.{no_longer}
use Rattle.proto_lex.proofs.laws.longest_token.Goals as goal

pub returns : goal.returns
returns c = no_longer
