use Rattle.std.proofs.Common.{◌≡◌, length}
use Rattle.proto_lex.specs.declared.token.TokenKind.TheVariants.{Dot}
use Rattle.proto_grammar.specs.Terminal.{not_next}
use Rattle.proto_grammar.specs.Reading.Repetition.{until_at, adding}
use Rattle.proto_grammar.specs.Reading.Names.{dot_name_at}
use Rattle.proto_grammar.proofs.parser.Parser.dot_names.Given as goal

abbrev pub invariant-names : goal.invariant-names
invariant-names l = until_at (not_next Dot) (adding dot_name_at) l.components l.self
    ≡ until_at (not_next Dot) (adding dot_name_at) l.initial.components l.initial.self

abbrev pub decreases-names : goal.decreases-names
decreases-names l = length l.self.left
