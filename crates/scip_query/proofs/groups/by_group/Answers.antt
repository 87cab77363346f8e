use Rattle.scip_query.proofs.GroupLemmas.{lists_are_table, appended_to_none}
use Rattle.std.proofs.Common.{◌∙◌}
use Rattle.scip_query.proofs.groups.by_group.Goals as goal

pub returns : goal.returns
returns g c = λ symbol_of gathered.
    lists_are_table symbol_of _ _ _ _ gathered c.sort_keys.ensures.reordered.2 c.in_ok-sort_keys.ensures.sorted
    c.sort_keys.ensures.unique
    (appended_to_none c.from_vec.ensures c.in_ok-append_lists.ensures c.clear.ensures.items
    (c.as_slice.ensures ∙ c.values.ensures.rest))
