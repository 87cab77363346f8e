use Rattle.std.proofs.Common.{◌≡◌, ◌∷◌, map, take}
use Rattle.std.specs.String.{string_bytes}
use Rattle.proto_decl.specs.Names.{dotted}
use Rattle.proto_decl.specs.declared.uses.Component.{Component}
use Rattle.proto_link.proofs.lookup.joined_behind.Given as goal

abbrev pub invariant-loop-component : goal.invariant-loop-component
invariant-loop-component l =
    string_bytes l.text ≡ dotted (map (λ (c : Component). c.name) (l.first ∷ take l.component-index l.others))
