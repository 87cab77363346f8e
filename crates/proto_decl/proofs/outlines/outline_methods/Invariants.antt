use Rattle.std.proofs.Common.{◌≡◌, ◌++◌, take}
use Rattle.std.specs.List.{flat_map}
use Rattle.proto_parse.specs.tree.Method.{Method}
use Rattle.proto_parse.specs.Parts.Part.{MethodPart}
use Rattle.proto_decl.specs.Declares.{declared_by}
use Rattle.proto_decl.proofs.outlines.outline_methods.Given as goal

-- the methods so far
abbrev pub invariant-loop-method : goal.invariant-loop-method
invariant-loop-method l =
    l.outlines.items ≡ l.fn.outlines.items
    ++ flat_map (λ (method : Method). declared_by l.text l.surrounding (MethodPart method))
    (take l.method-index l.methods)
