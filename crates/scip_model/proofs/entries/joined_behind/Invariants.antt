use Rattle.std.proofs.Common.{◌≡◌, ◌∷◌, take, string_bytes}
use Rattle.proto_decl.specs.Names.{dotted}
use Rattle.proto_decl.specs.Laws.{component_names}
use Rattle.scip_model.proofs.entries.joined_behind.Given as goal

-- the components so far
abbrev pub invariant-loop-component : goal.invariant-loop-component
invariant-loop-component l =
    string_bytes l.name ≡ dotted (component_names (l.fn.first ∷ take l.component-index l.others))
