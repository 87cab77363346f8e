-- Tables of occurrences, a list for each line.
use Rattle.std.specs.Prelude.{ℕ, List, [], Option, map, Vec}
use Rattle.std.specs.Borrow.{Bor}
use Rattle.std.specs.List.{slice_get}
use Rattle.std.specs.Option.{option_map_or}
use Rattle.scip_records.specs.declared.records.Occurrence.{Occurrence}

abbrev pub listed_or_none : {A : Type 0} → Option (Vec (Bor Occurrence) A) → List Occurrence
listed_or_none listed = option_map_or (λ l. map (λ (o : Bor Occurrence). o.now) l.items) listed []

-- the list of the line with a number
abbrev pub listed_on : {A : Type 0} → List (Vec (Bor Occurrence) A) → ℕ → List Occurrence
listed_on table number = listed_or_none (slice_get table number)
