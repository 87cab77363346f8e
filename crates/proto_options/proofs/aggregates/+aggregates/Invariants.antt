use Rattle.std.proofs.Common.{◌≡◌, ◌+◌, ◌*◌, length}
use Rattle.proto_grammar.specs.Reading.Repetition.{until_at}
use Rattle.proto_options.specs.Grammar.Aggregates.{list_is_over, is_over}
use Rattle.proto_options.specs.Reading.Aggregates.{element_at, item_at, message_at}
use Rattle.proto_options.proofs.aggregates.+aggregates.Given as goal

-- a message takes up a level; in it are items, in these values, lists and elements
abbrev pub decreases-message : goal.decreases-message
decreases-message l = 9 * l.levels

abbrev pub decreases-element : goal.decreases-element
decreases-element l = 9 * l.levels + 1

abbrev pub decreases-elements : goal.decreases-elements
decreases-elements l = 9 * l.levels + 2

abbrev pub decreases-list : goal.decreases-list
decreases-list l = 9 * l.levels + 3

abbrev pub decreases-value : goal.decreases-value
decreases-value l = 9 * l.levels + 4

abbrev pub decreases-field : goal.decreases-field
decreases-field l = 9 * l.levels + 5

abbrev pub decreases-item : goal.decreases-item
decreases-item l = 9 * l.levels + 6

abbrev pub decreases-items : goal.decreases-items
decreases-items l = 9 * l.levels + 7

abbrev pub decreases-body : goal.decreases-body
decreases-body l = 9 * l.levels + 8

abbrev pub invariant-elements-elements : goal.invariant-elements-elements
invariant-elements-elements l =
    until_at list_is_over (element_at (message_at l.levels) l.around) l.names l.cursor
    ≡ until_at list_is_over (element_at (message_at l.levels) l.around) l.initial.names l.initial.cursor

abbrev pub decreases-elements-elements : goal.decreases-elements-elements
decreases-elements-elements l = length l.cursor.left

abbrev pub invariant-items-items : goal.invariant-items-items
invariant-items-items l =
    until_at (is_over l.closing) (item_at (message_at l.levels) l.around) l.names l.cursor
    ≡ until_at (is_over l.closing) (item_at (message_at l.levels) l.around) l.initial.names l.initial.cursor

abbrev pub decreases-items-items : goal.decreases-items-items
decreases-items-items l = length l.cursor.left
