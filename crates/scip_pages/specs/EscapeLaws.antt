-- Laws of escapes.
use Rattle.std.specs.Prelude.{ℕ, ◌≡◌, ◌≢◌, List, ◌∷◌, ◌++◌, IsSome}
use Rattle.std.specs.List.{AllByRecursion}
use Rattle.scip_pages.specs.Escapes.{escape, pictured}
use Rattle.scip_pages.specs.Plain.{plain, reference_behind}

-- What an escaped text shows is the text, whatever it is, with the picture of each NUL,
abbrev pub ShowsTheText : Type 0
ShowsTheText = (text : List ℕ) → plain (escape text) ≡ pictured text

-- so the text itself if it has none.
abbrev pub PicturesNulAlone : Type 0
PicturesNulAlone = (text : List ℕ) → AllByRecursion (λ b. b ≢ 0) text → pictured text ≡ text

-- What comes after it is shown as it would be by itself.
abbrev pub ShowsTheRest : Type 0
ShowsTheRest = (text rest : List ℕ) → plain (escape text ++ rest) ≡ pictured text ++ plain rest

-- No `<`, `>`, `"`, `'`, `\r` or NUL is left in an escaped text,
abbrev pub HasNoMarks : Type 0
HasNoMarks =
    (text : List ℕ)
    → AllByRecursion (λ b. (b ≢ 60) × (b ≢ 62) × (b ≢ 34) × (b ≢ 39) × (b ≢ 13) × (b ≢ 0)) (escape text)

-- and each `&` begins a reference.
abbrev pub HasOnlyReferences : Type 0
HasOnlyReferences =
    (text before after : List ℕ) → escape text ≡ before ++ 38 ∷ after → IsSome (reference_behind after)
