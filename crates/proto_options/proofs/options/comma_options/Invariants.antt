use Rattle.std.proofs.Common.{◌≡◌, length}
use Rattle.proto_lex.specs.declared.token.TokenKind.TheVariants.{Comma}
use Rattle.proto_grammar.specs.Terminal.{not_next}
use Rattle.proto_grammar.specs.Reading.Repetition.{until_at}
use Rattle.proto_options.specs.Reading.Options.{comma_option_at}
use Rattle.proto_options.proofs.options.comma_options.Given as goal

abbrev pub invariant-options : goal.invariant-options
invariant-options l =
    until_at (not_next Comma) (comma_option_at l.scope l.element) l.options l.cursor
    ≡ until_at (not_next Comma) (comma_option_at l.scope l.element) l.initial.options l.initial.cursor

abbrev pub decreases-options : goal.decreases-options
decreases-options l = length l.cursor.left
