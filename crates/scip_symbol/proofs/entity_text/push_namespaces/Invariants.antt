use Rattle.std.proofs.Common.{◌≡◌, ◌++◌, drop}
use Rattle.std.specs.String.{string_bytes}
use Rattle.proto_decl.specs.Laws.{component_names}
use Rattle.scip_symbol.specs.EntityTexts.{namespaces_text}
use Rattle.scip_symbol.proofs.entity_text.push_namespaces.Given as goal

abbrev pub invariant-loop-component : goal.invariant-loop-component
invariant-loop-component l =
    string_bytes l.out ++ namespaces_text (component_names (drop l.component-index l.components))
    ≡ string_bytes l.fn.out ++ namespaces_text (component_names l.components)
