use Rattle.std.proofs.Common.{◌≡◌, length}
use Rattle.std.specs.Str.{IsUtf8}
use Rattle.scip_symbol.specs.Reading.{descriptors_at}
use Rattle.scip_symbol.proofs.ReadingDescriptorLemmas.{led-all}
use Rattle.scip_symbol.proofs.reader.read_descriptors.Given as goal

-- what is read, and what is left, is the whole
abbrev pub invariant-descriptors : goal.invariant-descriptors
invariant-descriptors l = (led-all l.descriptors.items (descriptors_at l.rest) ≡ descriptors_at l.text) × IsUtf8 l.rest

abbrev pub decreases-descriptors : goal.decreases-descriptors
decreases-descriptors l = length l.rest
