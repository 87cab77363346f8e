use Rattle.proto_visibility.specs.Tables.ClashTables.{AreInPlace}
use Rattle.proto_visibility.proofs.ItemAllLemmas.{AreItemsUpTo}
use Rattle.proto_visibility.proofs.items.all_items.Given as goal

abbrev pub invariant-loop-number : goal.invariant-loop-number
invariant-loop-number l =
    record { order : AreInPlace l.items.items; items : AreItemsUpTo l.files l.row l.number-index l.items.items }
