use Rattle.proto_visibility.specs.Reaches.{IsDescriptor}
use Rattle.proto_visibility.proofs.ThoseLemmas.{AreThoseUpTo}
use Rattle.proto_visibility.proofs.options.descriptors.Given as goal

abbrev pub invariant-loop-number : goal.invariant-loop-number
invariant-loop-number l = AreThoseUpTo (IsDescriptor l.files) l.number l.numbers.items
