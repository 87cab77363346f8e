use Rattle.std.proofs.Common.{◌≡◌, ◌∷◌, map, take}
use Rattle.std.specs.String.{string_bytes}
use Rattle.proto_decl.specs.Names.{dotted}
use Rattle.proto_decl.specs.declared.uses.Component.{Component}
use Rattle.option_link.proofs.PackageLemmas.{AddsUpTo}
use Rattle.option_link.proofs.packages.add_behind.Given as goal

abbrev pub invariant-loop-component : goal.invariant-loop-component
invariant-loop-component l =
    (string_bytes l.name ≡ dotted (map (λ (c : Component). c.name) (l.first ∷ take l.component-index l.others)))
    × AddsUpTo l.first l.others l.component-index l.fn.marks.items l.marks.items
