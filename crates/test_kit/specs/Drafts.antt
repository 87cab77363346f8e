-- Texts in the making: what was added to them, or nothing once memory ran out.
use Rattle.std.specs.Prelude.{◌≡◌, ◌⊎◌, ℕ, List, [], ◌∷◌, ◌++◌, Option, None, Some}
use Rattle.std.specs.Option.{option_map}

-- one more part stands behind what was there, or memory ran out for it. (A text that is cut stays so.)
abbrev pub Adds : List ℕ → Option (List ℕ) → Option (List ℕ) → Type 0
Adds part old new = (new ≡ None) ⊎ (new ≡ option_map (λ text. text ++ part) old)

-- a word as it is added: behind a dot, unless it is the first of a text
abbrev pub dotted : Option (List ℕ) → List ℕ → List ℕ
dotted None word = word
dotted (Some []) word = word
dotted (Some (byte ∷ text)) word = 46 ∷ word
