-- Names that don't begin with a scope.
use Rattle.std.proofs.Common.{◌≢◌, ℕ, List, [], ◌∷◌, ◌++◌, inl, inr, sym, ◌∙◌, append-nil}
use Rattle.index_hooks.specs.IsUnder.{dot, IsUnder}

pub not_under : (scope name : List ℕ) → ((rest : List ℕ) → name ≢ scope ++ rest) → IsUnder scope name → ⊥
not_under scope name none (inl e) = none [] (e ∙ sym (append-nil scope))
not_under scope name none (inr (rest, e)) = none (dot ∷ rest) e
