use Rattle.std.proofs.Common.{◌≡◌, ◌∷◌, map, take, string_bytes}
use Rattle.proto_decl.specs.Names.{dotted}
use Rattle.scip_build.proofs.option_reading.joined_names.Given as goal

-- the names so far
abbrev pub invariant-loop-component : goal.invariant-loop-component
invariant-loop-component l =
    string_bytes l.joined
    ≡ dotted (map (λ component. component.name) (l.fn.first ∷ take l.component-index l.others))
