-- What the numbers of documents and the places of occurrences stand for, and the tables of them, each in an order.
-- What is in Tables/ is for the code; no clause of a public function names it.
pub mod Searches
pub mod Groups
pub mod Runs
pub mod ConversingSteps
pub mod Outlines
pub mod LastParts
pub mod Named
use Rattle.std.specs.Prelude.{ℕ, ◌+◌, Bool, false, List, [], ◌∷◌, ◌++◌, length, map, Option, None, Some}
use Rattle.std.specs.List.{slice_get, range_with_len}
use Rattle.std.specs.List.Sorted.{IsSorted, IsStable, IsPermutation}
use Rattle.std.specs.Option.{option_and_then}
use Rattle.std.specs.declared.cmp.Ordering.{Ordering}
use Rattle.std.specs.Ordering.{nat_cmp, on}
use Rattle.std.specs.Cmp.Lexicographic.{slice_cmp}
use Rattle.scip_records.specs.declared.records.Document.{Document}
use Rattle.scip_records.specs.declared.records.Occurrence.{Occurrence}
use Rattle.scip_query.specs.References.{is_definition}
use Rattle.scip_query.specs.declared.place.Place.{Place}

-- ---- what numbers and places stand for

abbrev pub path_or_none : Option Document → List ℕ
path_or_none None = []
path_or_none (Some d) = d.relative_path

-- the path of the document with a number
abbrev pub path_listed : List Document → ℕ → List ℕ
path_listed documents number = path_or_none (slice_get documents number)

-- the occurrence at a place
abbrev pub occurrence_listed : List Document → Place → Option Occurrence
occurrence_listed documents place =
    option_and_then (λ (d : Document). slice_get d.occurrences place.occurrence) (slice_get documents place.document)

abbrev pub symbol_or_none : Option Occurrence → List ℕ
symbol_or_none None = []
symbol_or_none (Some o) = o.symbol

-- and its symbol
abbrev pub symbol_listed : List Document → Place → List ℕ
symbol_listed documents place = symbol_or_none (occurrence_listed documents place)

abbrev pub definition_or_not : Option Occurrence → Bool
definition_or_not None = false
definition_or_not (Some o) = is_definition o

-- whether the occurrence at a place is a definition
abbrev pub defines_listed : List Document → Place → Bool
defines_listed documents place = definition_or_not (occurrence_listed documents place)

-- ---- orders

abbrev pub path_cmp : List Document → ℕ → ℕ → Ordering
path_cmp documents = on (path_listed documents) (slice_cmp nat_cmp)

abbrev pub symbol_cmp : List Document → Place → Place → Ordering
symbol_cmp documents = on (symbol_listed documents) (slice_cmp nat_cmp)

-- ---- tables

-- a list in an order, in which the first listed of equal ones comes first
pub record IsTable {N : Type 0} (cmp : N → N → Ordering) (all table : List N) : Type 0 where
  pub permutation : IsPermutation all table
  pub sorted : IsSorted cmp table
  pub stable : IsStable cmp all table

-- n numbers from 0
abbrev pub numbers : ℕ → List ℕ
numbers n = range_with_len 0 n

-- the places in a document with a number
abbrev pub places_in : ℕ → Document → List Place
places_in number d = map (λ (k : ℕ). record { document = number; occurrence = k }) (numbers (length d.occurrences))

abbrev pub places_from : ℕ → List Document → List Place
places_from number [] = []
places_from number (d ∷ documents) = places_in number d ++ places_from (number + 1) documents

-- the documents by path
abbrev pub IsByPath : List Document → List ℕ → Type 0
IsByPath documents = IsTable (path_cmp documents) (numbers (length documents))

-- all occurrences by symbol, and of one symbol in the index's order
abbrev pub IsBySymbol : List Document → List Place → Type 0
IsBySymbol documents = IsTable (symbol_cmp documents) (places_from 0 documents)
