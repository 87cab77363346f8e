-- The table by which an outline looks for symbols.
use Rattle.std.specs.Prelude.{◌≡◌, ℕ, Bool, cond, List, [], ◌∷◌, take, map, filter}
use Rattle.std.specs.Borrow.{Bor}
use Rattle.std.specs.declared.cmp.Ordering.{Ordering}
use Rattle.std.specs.Ordering.{nat_cmp, on}
use Rattle.std.specs.Cmp.Lexicographic.{slice_cmp}
use Rattle.std.specs.Str.{bytes_eq}
use Rattle.scip_records.specs.declared.records.Index.{Index}
use Rattle.scip_records.specs.declared.records.Document.{Document}
use Rattle.scip_records.specs.declared.records.Occurrence.{Occurrence}
use Rattle.scip_query.specs.CommandViews.{text_of}
use Rattle.scip_query.specs.Sites.{Numbered}
use Rattle.scip_query.specs.Outline.{defines, defined_symbols, Outlined, outlined}
use Rattle.scip_query.specs.Tables.{IsTable}

abbrev pub text_cmp : Bor (List ℕ) → Bor (List ℕ) → Ordering
text_cmp = on text_of (slice_cmp nat_cmp)

-- the symbols that a document defines, sorted
pub record AreDefinedIn (d : Document) (table : List (Bor (List ℕ))) : Type 0 where
  pub all : List (Bor (List ℕ))
  pub are : map text_of all ≡ defined_symbols d
  pub sorted : IsTable text_cmp all table

-- whether a text begins as a symbol does, up to its n-th byte
abbrev pub begins : (symbol : List ℕ) (n : ℕ) → List ℕ → Bool
begins symbol n text = bytes_eq (take n text) (take n symbol)

-- of the symbols that a document defines, sorted, those that do
pub record BeginIn (d : Document) (symbol : List ℕ) (n : ℕ) (run : List (Bor (List ℕ))) : Type 0 where
  pub table : List (Bor (List ℕ))
  pub defined : AreDefinedIn d table
  pub are : run ≡ filter (λ (b : Bor (List ℕ)). begins symbol n b.now) table

-- the symbol of an occurrence, and the occurrence in an outline, if it defines a symbol
abbrev pub defined_symbol : Occurrence → List (List ℕ)
defined_symbol o = cond (defines o) (o.symbol ∷ []) []

abbrev pub outlined_at : Index → Numbered → Occurrence → List Outlined
outlined_at index d o = cond (defines o) (outlined index d o ∷ []) []
