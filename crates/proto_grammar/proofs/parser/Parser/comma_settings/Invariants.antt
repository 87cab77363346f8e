use Rattle.std.proofs.Common.{◌≡◌, length}
use Rattle.proto_lex.specs.declared.token.TokenKind.TheVariants.{Comma}
use Rattle.proto_grammar.specs.Terminal.{not_next}
use Rattle.proto_grammar.specs.Reading.Repetition.{until_at, passing}
use Rattle.proto_grammar.specs.Reading.Options.{comma_setting_at}
use Rattle.proto_grammar.proofs.parser.Parser.comma_settings.Given as goal

abbrev pub invariant-settings : goal.invariant-settings
invariant-settings l = until_at (not_next Comma) (passing (comma_setting_at l.custom)) tt l.self
    ≡ until_at (not_next Comma) (passing (comma_setting_at l.custom)) tt l.initial.self

abbrev pub decreases-settings : goal.decreases-settings
decreases-settings l = length l.self.left
