-- What is said about a fault of an index's bytes.
use Rattle.std.specs.Prelude.{ℕ, List, Option, Some, None, codes}
use Rattle.scip_wire.specs.declared.wire_fault.WireFault.{WireFault}
use Rattle.scip_wire.specs.declared.wire_fault.WireFault.TheVariants.{Truncated, Varint, FieldZero, Group, WireType}
use Rattle.scip_wire.specs.declared.wire_fault.WireFault.TheVariants.{Repeated, Utf8, BadRange, Memory}

abbrev pub name_of : WireFault → List ℕ
name_of (Truncated at) = codes "Truncated"
name_of (Varint at) = codes "Varint"
name_of (FieldZero at) = codes "FieldZero"
name_of (Group at) = codes "Group"
name_of (WireType at) = codes "WireType"
name_of (Repeated at) = codes "Repeated"
name_of (Utf8 at) = codes "Utf8"
name_of (BadRange at) = codes "BadRange"
name_of Memory = codes "Memory"

-- where it is in them
abbrev pub offset_of : WireFault → Option ℕ
offset_of (Truncated at) = Some at
offset_of (Varint at) = Some at
offset_of (FieldZero at) = Some at
offset_of (Group at) = Some at
offset_of (WireType at) = Some at
offset_of (Repeated at) = Some at
offset_of (Utf8 at) = Some at
offset_of (BadRange at) = Some at
offset_of Memory = None
