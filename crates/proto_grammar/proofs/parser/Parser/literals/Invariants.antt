use Rattle.std.proofs.Common.{◌≡◌, length}
use Rattle.proto_lex.specs.declared.token.TokenKind.TheVariants.{StringLiteral}
use Rattle.proto_grammar.specs.Terminal.{not_next}
use Rattle.proto_grammar.specs.Reading.Repetition.{until_at, passing}
use Rattle.proto_grammar.specs.Reading.Options.{literal_at}
use Rattle.proto_grammar.proofs.parser.Parser.literals.Given as goal

abbrev pub invariant-literals : goal.invariant-literals
invariant-literals l = until_at (not_next StringLiteral) (passing literal_at) tt l.self
    ≡ until_at (not_next StringLiteral) (passing literal_at) tt l.initial.self

abbrev pub decreases-literals : goal.decreases-literals
decreases-literals l = length l.self.left
