use Rattle.std.proofs.Common.{◌≡◌, ℕ, ◌+◌, ◌*◌, [], length}
use Rattle.proto_steps.specs.declared.statement.Within.{Within}
use Rattle.proto_steps.specs.declared.statement.Within.TheVariants.{Message, Oneof, Extend}
use Rattle.proto_steps.specs.Step.{While, adding, run}
use Rattle.proto_steps.specs.Terminals.{is_inside}
use Rattle.proto_steps.specs.Choice.{item_of}
use Rattle.proto_steps.specs.Grammar.Definitions.{inside}
use Rattle.proto_steps.proofs.messages.+parser.Given as goal

-- what is in a message may be a oneof or an extend
abbrev pub rank : Within → ℕ
rank Message = 11
rank Oneof = 4
rank Extend = 4

abbrev pub decreases-message : goal.decreases-message
decreases-message l = 14 * l.levels

abbrev pub decreases-group : goal.decreases-group
decreases-group l = 14 * l.levels

abbrev pub decreases-labelled : goal.decreases-labelled
decreases-labelled l = 14 * l.levels + 1

abbrev pub decreases-member : goal.decreases-member
decreases-member l = 14 * l.levels + 2

abbrev pub decreases-oneof_member : goal.decreases-oneof_member
decreases-oneof_member l = 14 * l.levels + 2

abbrev pub decreases-oneof_item : goal.decreases-oneof_item
decreases-oneof_item l = 14 * l.levels + 3

abbrev pub decreases-extend_item : goal.decreases-extend_item
decreases-extend_item l = 14 * l.levels + 3

abbrev pub decreases-item : goal.decreases-item
decreases-item l = 14 * l.levels + rank l.within

abbrev pub decreases-items : goal.decreases-items
decreases-items l = 14 * l.levels + rank l.within + 1

abbrev pub decreases-braced : goal.decreases-braced
decreases-braced l = 14 * l.levels + rank l.within + 2

abbrev pub decreases-oneof : goal.decreases-oneof
decreases-oneof l = 14 * l.levels + 7

abbrev pub decreases-extend : goal.decreases-extend
decreases-extend l = 14 * l.levels + 7

abbrev pub decreases-extend_statement : goal.decreases-extend_statement
decreases-extend_statement l = 14 * l.levels + 8

abbrev pub decreases-chosen_item : goal.decreases-chosen_item
decreases-chosen_item l = 14 * l.levels + 9

abbrev pub decreases-message_item : goal.decreases-message_item
decreases-message_item l = 14 * l.levels + 10

abbrev pub invariant-items-items : goal.invariant-items-items
invariant-items-items l =
    run (While is_inside (adding (item_of l.within l.syntax (inside l.syntax l.levels))) l.items.items) l.parser
    ≡ run (While is_inside (adding (item_of l.within l.syntax (inside l.syntax l.levels))) []) l.initial.parser

abbrev pub decreases-items-items : goal.decreases-items-items
decreases-items-items l = length l.parser.left
