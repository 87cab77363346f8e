use Rattle.std.proofs.Common.{◌≡◌, length}
use Rattle.proto_lex.specs.declared.token.TokenKind.TheVariants.{Dot}
use Rattle.proto_grammar.specs.Terminal.{not_next}
use Rattle.proto_grammar.specs.Reading.Repetition.{until_at, passing}
use Rattle.proto_grammar.specs.Reading.Names.{pass_dot_name_at}
use Rattle.proto_grammar.proofs.parser.Parser.pass_dot_names.Given as goal

abbrev pub invariant-names : goal.invariant-names
invariant-names l = until_at (not_next Dot) (passing pass_dot_name_at) tt l.self
    ≡ until_at (not_next Dot) (passing pass_dot_name_at) tt l.initial.self

abbrev pub decreases-names : goal.decreases-names
decreases-names l = length l.self.left
