use Rattle.std.proofs.Common.{◌≡◌, length}
use Rattle.proto_lex.specs.declared.token.TokenKind.TheVariants.{Dot}
use Rattle.proto_grammar.specs.Terminal.{not_next}
use Rattle.proto_grammar.specs.Reading.Repetition.{until_at, passing}
use Rattle.proto_grammar.specs.Reading.Options.{dot_part_at}
use Rattle.proto_grammar.proofs.parser.Parser.dot_parts.Given as goal

abbrev pub invariant-parts : goal.invariant-parts
invariant-parts l = until_at (not_next Dot) (passing (dot_part_at l.custom)) tt l.self
    ≡ until_at (not_next Dot) (passing (dot_part_at l.custom)) tt l.initial.self

abbrev pub decreases-parts : goal.decreases-parts
decreases-parts l = length l.self.left
