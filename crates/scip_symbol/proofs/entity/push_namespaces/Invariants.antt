use Rattle.std.proofs.Common.{◌≡◌, ◌++◌, drop, map}
use Rattle.proto_decl.specs.Laws.{component_names}
use Rattle.scip_symbol.specs.Entities.{namespace_of}
use Rattle.scip_symbol.proofs.entity.push_namespaces.Given as goal

abbrev pub invariant-loop-component : goal.invariant-loop-component
invariant-loop-component l =
    l.descriptors.items ++ map namespace_of (component_names (drop l.component-index l.components))
    ≡ l.fn.descriptors.items ++ map namespace_of (component_names l.components)
