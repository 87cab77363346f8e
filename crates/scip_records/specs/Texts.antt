-- Lists of texts.
use Rattle.std.specs.Prelude.{ℕ, List, [], ◌∷◌}

-- an empty text is left out
abbrev pub unless_empty : List ℕ → List (List ℕ)
unless_empty [] = []
unless_empty (byte ∷ others) = (byte ∷ others) ∷ []
