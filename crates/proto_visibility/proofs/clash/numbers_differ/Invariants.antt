use Rattle.proto_visibility.proofs.ClashDifferingLemmas.{AreApartUpTo}
use Rattle.proto_visibility.proofs.clash.numbers_differ.Given as goal

abbrev pub invariant-loop-number : goal.invariant-loop-number
invariant-loop-number l = AreApartUpTo l.files l.reachable l.number-index l.numbers
