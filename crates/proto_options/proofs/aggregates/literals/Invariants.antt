use Rattle.std.proofs.Common.{◌≡◌, length}
use Rattle.proto_lex.specs.declared.token.TokenKind.TheVariants.{StringLiteral}
use Rattle.proto_grammar.specs.Terminal.{not_next}
use Rattle.proto_grammar.specs.Reading.Repetition.{until_at, passing}
use Rattle.proto_options.specs.Reading.Aggregates.{literal_at}
use Rattle.proto_options.proofs.aggregates.literals.Given as goal

abbrev pub invariant-literals : goal.invariant-literals
invariant-literals l = until_at (not_next StringLiteral) (passing literal_at) tt l.cursor
    ≡ until_at (not_next StringLiteral) (passing literal_at) tt l.initial.cursor

abbrev pub decreases-literals : goal.decreases-literals
decreases-literals l = length l.cursor.left
