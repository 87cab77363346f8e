-- Rows of files: runs of places in an order that has all files.
use Rattle.std.specs.Prelude.{ℕ, ◌≡◌, ◌↔◌, ◌≤◌, ◌⊎◌, ◌+◌, ◌-◌, Some, List, [], ◌∷◌, ◌++◌, All, Contains}
use Rattle.std.specs.List.{slice_get, filter_map, range_with_len}
use Rattle.std.specs.List.Sorted.{IsNonDecreasingBy}
use Rattle.proto_visibility.specs.declared.rows.Run.{Run}

-- the numbers of runs, each from its first to its last
abbrev pub numbers_in : List Run → List ℕ
numbers_in [] = []
numbers_in (run ∷ runs) = range_with_len run.first (run.last + 1 - run.first) ++ numbers_in runs

abbrev pub IsIn : Run → ℕ → Type 0
IsIn run number = (run.first ≤ number) × (number ≤ run.last)

-- a number of one of the runs, or of this one
abbrev pub HasNumber : List Run → Run → ℕ → Type 0
HasNumber runs run number = Contains (numbers_in runs) number ⊎ IsIn run number

-- each run ends where it begins, or later
abbrev pub AreWhole : List Run → Type 0
AreWhole runs = All (λ run. run.first ≤ run.last) runs

-- such runs, of which none begins or ends before an earlier one does
pub record AreInOrder (runs : List Run) : Type 0 where
  pub whole : AreWhole runs
  pub firsts : IsNonDecreasingBy (λ (run : Run). run.first) runs
  pub lasts : IsNonDecreasingBy (λ (run : Run). run.last) runs

-- such runs, none of which ends behind the number
pub record AreBefore (runs : List Run) (number : ℕ) : Type 0 where
  pub order : AreInOrder runs
  pub ended : All (λ (run : Run). run.last ≤ number) runs

-- the files at these places of an order
abbrev pub files_at : (order places : List ℕ) → List ℕ
files_at order places = filter_map (slice_get order) places

-- the one list has the place of each file in the other
abbrev pub AreRanks : (order ranks : List ℕ) → Type 0
AreRanks order ranks = (number rank : ℕ) → (slice_get order rank ≡ Some number) ↔ (slice_get ranks number ≡ Some rank)

-- these runs have the files of those, and more
pub record IsWith (order : List ℕ) (old new : List Run) (More : ℕ → Type 0) : Type 0 where
  pub has : (file : ℕ) → Contains (files_at order (numbers_in new)) file
      ↔ (Contains (files_at order (numbers_in old)) file ⊎ More file)
  pub whole : AreWhole old → AreWhole new
