-- What a result says about what the bytes hold.
use Rattle.std.specs.Prelude.{◌≡◌, ◌⊎◌, Option, Some, None, Result, Ok, Err, IfErr}
use Rattle.scip_wire.specs.declared.wire_fault.WireFault.{WireFault}
use Rattle.scip_wire.specs.declared.wire_fault.WireFault.TheVariants.{Memory}

-- the fault is Memory, which says nothing about the bytes, or nothing is read
abbrev pub Fails : {Y : Type 0} → WireFault → Option Y → Type 0
Fails fault read = (fault ≡ Memory) ⊎ (read ≡ None)

-- the result is what is read, or fails so
abbrev pub Gives : {X Y : Type 0} → (X → Y) → Result X WireFault → Option Y → Type 0
Gives view (Ok x) read = read ≡ Some (view x)
Gives view (Err fault) read = Fails fault read

-- the fault that a function answers, unless memory ran out
abbrev pub Blames : {X : Type 0} → Result X WireFault → (due : WireFault) → Type 0
Blames result due = IfErr result (λ fault. (fault ≡ Memory) ⊎ (fault ≡ due))

-- nothing is read, and the fault is the one that is due: of readers that take no memory
abbrev pub Names : {Y : Type 0} → Option Y → (due fault : WireFault) → Type 0
Names read due fault = (read ≡ None) × (fault ≡ due)
