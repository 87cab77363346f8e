use Rattle.std.proofs.Common.{◌≡◌, ◌+◌, ◌∷◌, map, take}
use Rattle.std.specs.String.{string_bytes}
use Rattle.proto_decl.specs.Names.{dotted}
use Rattle.proto_visibility.proofs.ItemLemmas.{ArePrefixesOf}
use Rattle.proto_visibility.proofs.items.prefixes_of.Given as goal

abbrev pub invariant-loop-component : goal.invariant-loop-component
invariant-loop-component l =
    record {
      prefix : string_bytes l.prefix
          ≡ dotted (map (λ component. component.name) (l.first ∷ take l.component-index l.others));
      prefixes : ArePrefixesOf (l.first ∷ l.others) l.prefixes.items (l.component-index + 1);
    }
