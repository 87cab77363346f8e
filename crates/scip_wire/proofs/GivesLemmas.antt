-- `Fails`: what a fault of an inner reading says of an outer one.
use Rattle.std.proofs.Common.{◌≡◌, ◌∙◌, sym, inl, inr, Option, Some, None}
use Rattle.std.proofs.lemmas.Option.{none-some}
use Rattle.scip_wire.specs.declared.wire_fault.WireFault.{WireFault}
use Rattle.scip_wire.specs.declared.wire_fault.WireFault.TheVariants.{Memory}
use Rattle.scip_wire.specs.Gives.{Fails}

-- where nothing of the inner is nothing of the outer
pub fails_too : {X Y : Type 0} (e : WireFault) (inner : Option X) (outer : Option Y) → (inner ≡ None → outer ≡ None)
    → Fails e inner → Fails e outer
fails_too e inner outer h (inl memory) = inl memory
fails_too e inner outer h (inr none) = inr (h none)

-- only want of memory keeps what can be read from being read
pub is_memory : {Y : Type 0} (e : WireFault) (read : Option Y) (y : Y) → Fails e read → read ≡ Some y → e ≡ Memory
is_memory e read y (inl memory) is = memory
is_memory e read y (inr none) is = absurd (none-some y (sym none ∙ is))
