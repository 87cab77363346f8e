use Rattle.std.proofs.Common.{◌≡◌, ◌++◌, take}
use Rattle.std.specs.List.{flat_map}
use Rattle.scip_query.proofs.groups.append_lists.Given as goal

-- the lists so far
abbrev pub invariant-loop-list : goal.invariant-loop-list
invariant-loop-list g l =
    l.places.items ≡ l.fn.places.items ++ flat_map (λ list. list.items) (take l.list-index l.lists)
