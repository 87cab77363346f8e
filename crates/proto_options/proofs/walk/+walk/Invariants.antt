use Rattle.std.proofs.Common.{◌≡◌, ◌+◌, ◌*◌, length}
use Rattle.proto_grammar.specs.Terminal.{closes}
use Rattle.proto_grammar.specs.Reading.Repetition.{until_at}
use Rattle.proto_options.specs.Reading.Walk.{item_at, inside_at}
use Rattle.proto_options.proofs.RankLemmas.{rank_inside, rank_of}
use Rattle.proto_options.proofs.walk.+walk.Given as goal

abbrev pub decreases-message_body : goal.decreases-message_body
decreases-message_body l = 40 * l.levels

abbrev pub decreases-service_body : goal.decreases-service_body
decreases-service_body l = 40 * l.levels + 28

abbrev pub decreases-body : goal.decreases-body
decreases-body l = 40 * l.levels + 12 * rank_of l.within + 5

abbrev pub decreases-braces : goal.decreases-braces
decreases-braces l = 40 * l.levels + 12 * rank_of l.within + 6

abbrev pub decreases-ended : goal.decreases-ended
decreases-ended l = 40 * l.levels + 12 * rank_of l.within + 6

abbrev pub decreases-member : goal.decreases-member
decreases-member l = 40 * l.levels + 7

abbrev pub decreases-method : goal.decreases-method
decreases-method l = 40 * l.levels + 19

abbrev pub decreases-other_statement : goal.decreases-other_statement
decreases-other_statement l = 40 * l.levels + 12 * rank_inside l.within

abbrev pub decreases-item : goal.decreases-item
decreases-item l = 40 * l.levels + 12 * rank_inside l.within + 1

abbrev pub decreases-items : goal.decreases-items
decreases-items l = 40 * l.levels + 12 * rank_inside l.within + 2

abbrev pub decreases-block : goal.decreases-block
decreases-block l = 40 * l.levels + 12 * rank_inside l.within + 3

abbrev pub invariant-items-items : goal.invariant-items-items
invariant-items-items l =
    until_at closes (item_at l.within (inside_at l.levels) l.scopes.around.now l.scopes.inner.now) l.options l.cursor
    ≡ until_at closes (item_at l.within (inside_at l.levels) l.scopes.around.now l.scopes.inner.now)
    l.initial.options l.initial.cursor

abbrev pub decreases-items-items : goal.decreases-items-items
decreases-items-items l = length l.cursor.left
