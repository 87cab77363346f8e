use Rattle.std.proofs.Common.{◌≡◌, length}
use Rattle.proto_lex.specs.declared.token.TokenKind.TheVariants.{Dot}
use Rattle.proto_grammar.specs.Terminal.{not_next}
use Rattle.proto_grammar.specs.Reading.Repetition.{until_at}
use Rattle.proto_options.specs.Reading.Settings.{dot_part_at}
use Rattle.proto_options.proofs.settings.dot_parts.Given as goal

abbrev pub invariant-parts : goal.invariant-parts
invariant-parts l = until_at (not_next Dot) dot_part_at l.names l.cursor
    ≡ until_at (not_next Dot) dot_part_at l.initial.names l.initial.cursor

abbrev pub decreases-parts : goal.decreases-parts
decreases-parts l = length l.cursor.left
