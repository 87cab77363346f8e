use Rattle.std.proofs.Common.{◌≡◌, ◌++◌, take}
use Rattle.std.specs.List.{flat_map}
use Rattle.proto_parse.specs.tree.Heading.{Heading}
use Rattle.proto_parse.specs.Parts.Part.{ValuePart}
use Rattle.proto_decl.specs.Declares.{declared_by}
use Rattle.proto_decl.proofs.outlines.outline_values.Given as goal

-- the values so far
abbrev pub invariant-loop-value : goal.invariant-loop-value
invariant-loop-value l =
    l.outlines.items ≡ l.fn.outlines.items
    ++ flat_map (λ (value : Heading). declared_by l.text l.surrounding (ValuePart value)) (take l.value-index l.values)
