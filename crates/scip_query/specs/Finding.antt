-- Which definitions a text finds.
use Rattle.std.specs.Prelude.{ℕ, Bool, cond, List, [], ◌∷◌, length, take, Option, None, Some}
use Rattle.std.specs.List.{flat_map}
use Rattle.std.specs.declared.cmp.Ordering.{Ordering}
use Rattle.std.specs.Ordering.{nat_cmp, on, then_cmp}
use Rattle.std.specs.Cmp.Lexicographic.{slice_cmp}
use Rattle.scip_records.specs.declared.records.Index.{Index}
use Rattle.scip_records.specs.declared.records.Occurrence.{Occurrence}
use Rattle.scip_query.specs.Sites.{Numbered, numbered_documents}
use Rattle.scip_query.specs.Entries.{entry_of, shown_name}
use Rattle.scip_query.specs.Names.{likeness}
use Rattle.scip_query.specs.Outline.{defines}
use Rattle.scip_query.specs.Sorting.{sorted_by}

-- the most definitions that are answered
abbrev pub max_found : ℕ
max_found = 100

-- a definition, its document's path, and whether the text is a name of it
pub record Found : Type 0 where
  pub exact : Bool
  pub path : List ℕ
  pub occurrence : Occurrence

abbrev pub found_as : Numbered → Occurrence → Option Bool → List Found
found_as d o None = []
found_as d o (Some exact) = record { exact = exact; path = d.document.relative_path; occurrence = o } ∷ []

-- an occurrence is found if it defines a symbol that the text is like
abbrev pub found_at : Index → List ℕ → Numbered → Occurrence → List Found
found_at index text d o =
    cond (defines o) (found_as d o
    (likeness text (shown_name (entry_of index (record { asked = d; symbol = o.symbol }))) o.symbol)) []

abbrev pub found_in : Index → List ℕ → Numbered → List Found
found_in index text d = flat_map (found_at index text d) d.document.occurrences

abbrev pub all_found : Index → List ℕ → List Found
all_found index text = flat_map (found_in index text) (numbered_documents index)

-- those of which the text is a name first, then by the symbol's length, and then by the symbol
abbrev pub found_cmp : Found → Found → Ordering
found_cmp =
    then_cmp (on (λ (f : Found). cond f.exact 0 1) nat_cmp)
    (then_cmp (on (λ (f : Found). length f.occurrence.symbol) nat_cmp)
    (on (λ (f : Found). f.occurrence.symbol) (slice_cmp nat_cmp)))

-- the definitions that a text finds, the first hundred in that order
abbrev pub found_by : Index → List ℕ → List Found
found_by index text = take max_found (sorted_by found_cmp (all_found index text))
