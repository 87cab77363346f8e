-- Tables of numbers, a list for each line.
use Rattle.std.specs.Prelude.{ℕ, List, [], Option, None, Some, Vec}
use Rattle.std.specs.List.{slice_get}

abbrev pub listed_or_none : {A : Type 0} → Option (Vec ℕ A) → List ℕ
listed_or_none None = []
listed_or_none (Some listed) = listed.items

-- the list of the line with a number
abbrev pub listed_on : {A : Type 0} → List (Vec ℕ A) → ℕ → List ℕ
listed_on table number = listed_or_none (slice_get table number)
