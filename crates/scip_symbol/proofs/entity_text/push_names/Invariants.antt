use Rattle.std.proofs.Common.{◌≡◌, ◌++◌, ℕ, List, drop, map}
use Rattle.std.specs.String.{string_bytes}
use denote.Ref.{Bor}
use Rattle.scip_symbol.specs.EntityTexts.{namespaces_text}
use Rattle.scip_symbol.proofs.entity_text.push_names.Given as goal

abbrev pub invariant-loop-name : goal.invariant-loop-name
invariant-loop-name l =
    string_bytes l.out ++ namespaces_text (map (λ (name : Bor (List ℕ)). name.now) (drop l.name-index l.names))
    ≡ string_bytes l.fn.out ++ namespaces_text (map (λ (name : Bor (List ℕ)). name.now) l.names)
