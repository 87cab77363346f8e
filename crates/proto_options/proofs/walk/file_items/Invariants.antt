use Rattle.std.proofs.Common.{◌≡◌, length}
use Rattle.proto_grammar.specs.Terminal.{is_end}
use Rattle.proto_grammar.specs.Reading.Repetition.{until_at}
use Rattle.proto_options.specs.declared.statements.Within.TheVariants.{File}
use Rattle.proto_options.specs.Reading.Walk.{item_at, inside_at}
use Rattle.proto_options.proofs.walk.file_items.Given as goal

abbrev pub invariant-items : goal.invariant-items
invariant-items l =
    until_at is_end (item_at File (inside_at l.levels) l.scope l.scope) l.options l.cursor
    ≡ until_at is_end (item_at File (inside_at l.levels) l.scope l.scope) l.initial.options l.initial.cursor

abbrev pub decreases-items : goal.decreases-items
decreases-items l = length l.cursor.left
