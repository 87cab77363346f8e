use Rattle.std.proofs.Common.{◌≡◌, length}
use Rattle.proto_lex.specs.declared.token.TokenKind.TheVariants.{Comma}
use Rattle.proto_grammar.specs.Terminal.{not_next}
use Rattle.proto_grammar.specs.Reading.Repetition.{until_at, passing}
use Rattle.proto_grammar.specs.Reading.Reserved.{comma_item_at}
use Rattle.proto_grammar.proofs.parser.Parser.comma_items.Given as goal

abbrev pub invariant-items : goal.invariant-items
invariant-items l = until_at (not_next Comma) (passing (comma_item_at l.negative l.names)) tt l.self
    ≡ until_at (not_next Comma) (passing (comma_item_at l.negative l.names)) tt l.initial.self

abbrev pub decreases-items : goal.decreases-items
decreases-items l = length l.self.left
