-- What could be at a place of a source, by what is before the place.
use Rattle.std.specs.Prelude.{◌≡◌, ◌≤◌, ◌<◌, ◌⊎◌, ℕ, Bool, true, false, nat_eq, List, [], ◌∷◌, ◌++◌, length}
use Rattle.std.specs.Prelude.{Option, Some, None}
use Rattle.proto_parse.specs.dialect.Dialect.{Dialect}
use Rattle.diagnostics.specs.Answers.{IsAnswer}
use Rattle.diagnostics.specs.Candidates.{signs, number, whole_numbers, literal, versions, name, words}
use Rattle.diagnostics.specs.Wording.{hints_text}

-- ---- one candidate

-- a candidate behind what is before the place, on a line of its own, so that no comment and no word goes on with it
abbrev pub with_candidate : (front spelling : List ℕ) → List ℕ
with_candidate front spelling = front ++ 10 ∷ spelling

-- An answer lets it stand: there is a tree; or the fault is at the end of the text, so that what is missing comes
-- behind the candidate.
abbrev pub lets_stand : (text : List ℕ) → (answer : Option ℕ) → Bool
lets_stand text None = true
lets_stand text (Some at) = nat_eq at (length text)

-- whether it could stand, by an answer
abbrev pub CouldStand : Dialect → (front spelling : List ℕ) → Bool → Type 0
CouldStand dialect front spelling could =
    (answer : Option ℕ) × IsAnswer dialect (with_candidate front spelling) answer
    × (could ≡ lets_stand (with_candidate front spelling) answer)

-- ---- all of them; `Could` says whether one could stand

-- Of some, in their order, those stay that could stand, and the others go.
pub data Standing (Could : List ℕ → Bool → Type 0) : (spellings kept : List (List ℕ)) → Type 0 where
  none : Standing Could [] []
  stays : {spelling : List ℕ} {others kept : List (List ℕ)} → Could spelling true → Standing Could others kept
      → Standing Could (spelling ∷ others) (spelling ∷ kept)
  goes : {spelling : List ℕ} {others kept : List (List ℕ)} → Could spelling false → Standing Could others kept
      → Standing Could (spelling ∷ others) kept

-- A general one is kept in place of the special ones, if it could stand.
abbrev pub OfKind : (Could : List ℕ → Bool → Type 0) → (general : List ℕ) → (special kept : List (List ℕ)) → Type 0
OfKind Could general special kept =
    (Could general true × (kept ≡ general ∷ [])) ⊎ (Could general false × Standing Could special kept)

-- these are kept: signs; any number, or a whole one; any literal, or the versions; any name, or the words
pub record AreHints (Could : List ℕ → Bool → Type 0) (hints : List (List ℕ)) : Type 0 where
  pub of_signs : List (List ℕ)
  pub signs_are : Standing Could signs of_signs
  pub of_numbers : List (List ℕ)
  pub numbers_are : OfKind Could number whole_numbers of_numbers
  pub of_literals : List (List ℕ)
  pub literals_are : OfKind Could literal versions of_literals
  pub of_names : List (List ℕ)
  pub names_are : OfKind Could name words of_names
  pub all_are : hints ≡ of_signs ++ of_numbers ++ of_literals ++ of_names

-- ---- their text

-- the most bytes before a place of which something is told (this project's own choice)
abbrev pub max_front : ℕ
max_front = 65536

-- Past so many nothing is tried or told.
pub data IsHinted (dialect : Dialect) (front text : List ℕ) : Type 0 where
  untried : max_front < length front → text ≡ [] → IsHinted dialect front text
  tried : (hints : List (List ℕ)) → length front ≤ max_front → AreHints (CouldStand dialect front) hints
      → text ≡ hints_text hints → IsHinted dialect front text
