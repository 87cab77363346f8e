use Rattle.proto_visibility.proofs.ItemLemmas.{AreWithFirst}
use Rattle.proto_visibility.proofs.items.add_package.Given as goal

abbrev pub invariant-loop-index : goal.invariant-loop-index
invariant-loop-index l = AreWithFirst l.number l.components l.fn.items.items l.items.items l.index
