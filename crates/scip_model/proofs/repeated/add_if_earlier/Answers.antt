use Rattle.std.proofs.Common.{◌∙◌, ◌++◌, ◌∷◌, ◌⊎◌, ◌↔◌, ◌≡◌, [], ap, map, sym, subst, ℕ, Bool, List}
use Rattle.std.specs.Prelude.{Contains, if◌then◌else◌}
use Rattle.std.specs.String.{string_bytes}
use Rattle.std.specs.Str.{bytes_eq}
use Rattle.scip_model.proofs.PackageLemmas.{any-of-map, more-text}
use Rattle.scip_model.proofs.RepeatedNameLemmas.{with-one}
use Rattle.scip_model.proofs.repeated.add_if_earlier.Goals as goal

pub returns-in_ok-insert-clause-added : goal.returns-in_ok-insert-clause-added
returns-in_ok-insert-clause-added c = λ less other.
    let keys = c.args.names.now.keys in
    let name = c.args.name in
    let texts : List (List ℕ) = map string_bytes keys in
    let same = ap (map string_bytes) c.in_ok-insert.ensures.keys
    ∙ (more-text string_bytes _ keys name
    ∙ ap (λ (b : Bool). if b then texts else texts ++ string_bytes name ∷ [])
    (any-of-map (bytes_eq (string_bytes name)) string_bytes keys)) in
    subst (λ (l : List (List ℕ)). Contains l other ↔ (Contains texts other ⊎ (other ≡ string_bytes name))) (sym same)
    (with-one texts (string_bytes name) other)
