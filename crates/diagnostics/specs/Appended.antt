-- What private code appends: candidates to what is found, and hints to a text.
use Rattle.std.specs.Prelude.{◌≡◌, ℕ, zero, suc, Bool, List, [], ◌∷◌, ◌++◌, codes, if◌then◌else◌}
use Rattle.diagnostics.specs.Wording.{max_told, shown}

-- ---- candidates

-- one is put behind what is found, if it could stand
abbrev pub with_it : (could : Bool) → (spelling : List ℕ) → List (List ℕ) → List (List ℕ)
with_it could spelling found = if could then found ++ spelling ∷ [] else found

-- what is kept is put behind what is found
abbrev pub Adds : (IsKept : List (List ℕ) → Type 0) → (before after : List (List ℕ)) → Type 0
Adds IsKept before after = (kept : List (List ℕ)) × IsKept kept × (after ≡ before ++ kept)

-- ---- hints

-- what is between one and those behind it, of which so many are told at most
abbrev pub between : List (List ℕ) → (room : ℕ) → List ℕ
between [] room = []
between (last ∷ []) room = codes " or "
between (next ∷ second ∷ more) zero = codes " or "
between (next ∷ second ∷ more) (suc room) = codes ", "

-- all of them, if they are so many at most
abbrev pub listed : List (List ℕ) → (room : ℕ) → List ℕ
listed [] room = []
listed (hint ∷ behind) zero = codes "others"
listed (hint ∷ behind) (suc room) = shown hint ++ between behind room ++ listed behind room

abbrev pub listed_text : List (List ℕ) → List ℕ
listed_text [] = []
listed_text (first ∷ more) = codes ": " ++ listed (first ∷ more) max_told
