-- Full names under one another.
use Rattle.std.specs.Prelude.{◌≡◌, ◌⊎◌, ℕ, List, ◌∷◌, ◌++◌}

-- `.`, which is between the components of a full name
abbrev pub dot : ℕ
dot = 46

-- a full name is that of a scope, or begins with it and a dot
abbrev pub IsUnder : (scope name : List ℕ) → Type 0
IsUnder scope name = (name ≡ scope) ⊎ ((rest : List ℕ) × (name ≡ scope ++ dot ∷ rest))
