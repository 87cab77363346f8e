use Rattle.std.proofs.Common.{◌≡◌, ◌++◌, take}
use Rattle.std.specs.List.{flat_map}
use Rattle.proto_decl.specs.Walked.{uses_of_method}
use Rattle.proto_decl.proofs.uses.use_methods.Given as goal

-- the uses of the methods so far
abbrev pub invariant-loop-method : goal.invariant-loop-method
invariant-loop-method l =
    l.uses.items
    ≡ l.fn.uses.items ++ flat_map (uses_of_method l.text l.surrounding) (take l.method-index l.methods)
