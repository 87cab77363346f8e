use Rattle.std.proofs.Common.{ap}
use Rattle.proto_lex.proofs.LexesLemmas.{same_pieces}
use Rattle.proto_lex.specs.Reading.{Pieces}
use Rattle.proto_lex.proofs.laws.one_lexing.Goals as goal

pub returns-clause-tokens : goal.returns-clause-tokens
returns-clause-tokens c = λ hashes text tokens others comments remarks d e. ap (λ (l : Pieces). l.tokens) (same_pieces d e)

pub returns-clause-comments : goal.returns-clause-comments
returns-clause-comments c = λ hashes text tokens others comments remarks d e. ap (λ (l : Pieces). l.comments) (same_pieces d e)
