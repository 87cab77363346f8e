use Rattle.std.proofs.Common.{◌≡◌, length}
use Rattle.proto_lex.specs.declared.token.TokenKind.TheVariants.{Dot}
use Rattle.proto_grammar.specs.Terminal.{not_next}
use Rattle.proto_grammar.specs.Reading.Repetition.{until_at, adding}
use Rattle.proto_grammar.specs.Reading.Names.{dot_name_at}
use Rattle.proto_options.proofs.passing.dot_names.Given as goal

abbrev pub invariant-names : goal.invariant-names
invariant-names l = until_at (not_next Dot) (adding dot_name_at) l.components l.cursor
    ≡ until_at (not_next Dot) (adding dot_name_at) l.initial.components l.initial.cursor

abbrev pub decreases-names : goal.decreases-names
decreases-names l = length l.cursor.left
