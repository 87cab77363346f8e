use Rattle.std.proofs.Common.{List, MatchOption, subst}
use Rattle.std.specs.List.{Contains}
use Rattle.proto_visibility.specs.Clashes.{Before, Item, IsItem, ClashBy, NoClashBy}
use Rattle.proto_visibility.proofs.ClashLemmas.{clash_of_items}
use Rattle.proto_visibility.proofs.ItemAllLemmas.{same_items}
use Rattle.proto_visibility.proofs.SeeingReachableLemmas.{reachable_within}
use Rattle.proto_visibility.proofs.checked.first_of_all.Goals as goal

pub all_items-requires-clause-within : goal.all_items-requires-clause-within
all_items-requires-clause-within c =
    λ number there. reachable_within c.args.files.now number ((c.requires.reachable number).0 there)

pub returns : goal.returns
returns c =
    let items = c.in_ok-items.items.items in
    let row = c.args.reachable.now in
    clash_of_items Before {I = Contains items} {J = IsItem c.args.files.now}
    (λ item. (
      λ there. (same_items c.args.files.now row c.requires.reachable item).0 ((c.in_ok-items.ensures.items item).0 there),
      λ is. (c.in_ok-items.ensures.items item).1 ((same_items c.args.files.now row c.requires.reachable item).1 is),
    ))
    c.in_ok-clash.clash
    (subst (λ (xs : List Item). MatchOption c.in_ok-clash.clash (NoClashBy Before (Contains xs))
    (λ places. ClashBy Before (Contains xs) places.0 places.1)) c.as_slice.ensures.value c.in_ok-clash.ensures)
