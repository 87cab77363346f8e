use Rattle.std.proofs.Common.{List, MatchOption, subst}
use Rattle.std.specs.List.{Contains}
use Rattle.proto_visibility.specs.Clashes.{Before, Item, ClashBy, NoClashBy}
use Rattle.proto_visibility.specs.Tables.FileItems.{IsItemIn}
use Rattle.proto_visibility.proofs.ClashLemmas.{clash_of_items}
use Rattle.proto_visibility.proofs.items.own_clash.Goals as goal

pub returns : goal.returns
returns c =
    clash_of_items Before {I = Contains c.in_ok-items.items.items} {J = IsItemIn c.args.number c.args.file.now}
    c.in_ok-items.ensures.items c.in_ok-clash.clash
    (subst (λ (xs : List Item). MatchOption c.in_ok-clash.clash (NoClashBy Before (Contains xs))
    (λ places. ClashBy Before (Contains xs) places.0 places.1)) c.as_slice.ensures.value c.in_ok-clash.ensures)
