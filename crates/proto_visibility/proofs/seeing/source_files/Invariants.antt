use Rattle.proto_visibility.specs.Files.{IsSource}
use Rattle.proto_visibility.proofs.ThoseLemmas.{AreThoseUpTo}
use Rattle.proto_visibility.proofs.seeing.source_files.Given as goal

abbrev pub invariant-loop-number : goal.invariant-loop-number
invariant-loop-number l = AreThoseUpTo (IsSource l.files) l.number l.numbers.items
