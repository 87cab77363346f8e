use Rattle.std.proofs.Common.{◌∙◌, ap, ◌++◌}
use Rattle.scip_query.proofs.GroupLemmas.{lists_more}
use Rattle.scip_query.proofs.groups.append_lists.Goals as goal

pub loop-list-preserved : goal.loop-list-preserved
loop-list-preserved g c =
    lists_more c.args.places.now.items c.loop-list.places.items _ c.args.lists.now c.loop-list.list-index
    c.list-item.result c.loop-list-test.true c.list-item.is c.loop-list.invariant
    (c.in_ok-extend_from_slice.ensures.items ∙ ap (λ l. c.loop-list.places.items ++ l) c.as_slice.ensures.value)
