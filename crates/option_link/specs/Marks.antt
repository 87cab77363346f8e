-- Marks of numbers by their last 16 bits. Numbers with the same ones share a mark, so a number that has one may be
-- another's; what has a number without one isn't there. Where no mark stands for a number, it counts as marked.
use Rattle.std.specs.Prelude.{◌≡◌, ◌⊎◌, ◌%◌, ℕ, Bool, true, List, get_or, Contains}
use Rattle.option_link.specs.declared.table.Listed.{Listed}

abbrev pub IsMarked : List Bool → (number : ℕ) → Type 0
IsMarked marks number = get_or marks (number % 65536) true ≡ true

-- these are the marks that were there, and that of this number
pub record AddsMark (number : ℕ) (old new : List Bool) : Type 0 where
  pub kept : (other : ℕ) → IsMarked old other → IsMarked new other
  pub added : IsMarked new number
  pub only : (other : ℕ) → IsMarked new other → IsMarked old other ⊎ (other % 65536 ≡ number % 65536)

-- the numbers that the full names of what is listed are hashed by have marks
abbrev pub AreListedMarked : List Listed → List Bool → Type 0
AreListedMarked listed marks = (one : Listed) → Contains listed one → IsMarked marks one.hash64
