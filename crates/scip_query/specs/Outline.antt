-- The outline of a document: what it defines, in order of place.
use Rattle.std.specs.Prelude.{ℕ, ℤ, ◌+◌, Bool, false, not, ◌&&◌, nat_eq, List, [], length, take, map}
use Rattle.std.specs.Prelude.{filter, codes, Option, None, Some, Result, Ok, Err}
use Rattle.std.specs.Option.{is_some}
use Rattle.std.specs.List.{list_any, count_by, slice_get}
use Rattle.std.specs.Str.{bytes_eq}
use Rattle.std.specs.declared.cmp.Ordering.{Ordering}
use Rattle.std.specs.Ordering.{on}
use Rattle.scip_records.specs.declared.records.Index.{Index}
use Rattle.scip_records.specs.declared.records.Document.{Document}
use Rattle.scip_records.specs.declared.records.Occurrence.{Occurrence}
use Rattle.scip_query.specs.Positions.{position_cmp, start_of}
use Rattle.scip_query.specs.Sites.{Numbered, document_named}
use Rattle.scip_query.specs.References.{is_definition}
use Rattle.scip_query.specs.Tables.{numbers}
use Rattle.scip_query.specs.Entries.{entry_of, kind_in}
use Rattle.scip_query.specs.Sorting.{sorted_by}
use Rattle.scip_query.specs.declared.miss.Miss.{Miss}
use Rattle.scip_query.specs.declared.miss.Miss.TheVariants.{NoDocument}

-- an occurrence that defines a symbol
abbrev pub defines : Occurrence → Bool
defines o = is_definition o && not (bytes_eq o.symbol [])

-- the symbols that a document defines, and whether a text is one
abbrev pub defined_symbols : Document → List (List ℕ)
defined_symbols d = map (λ (o : Occurrence). o.symbol) (filter defines d.occurrences)

abbrev pub is_defined : Document → List ℕ → Bool
is_defined d symbol = list_any (λ s. bytes_eq s symbol) (defined_symbols d)

-- whether a sign ends a descriptor (`scip.proto`, Symbol)
abbrev pub ends_descriptor : ℕ → Bool
ends_descriptor b = list_any (nat_eq b) (codes "/#.:!])")

abbrev pub ends_descriptor_at : Option ℕ → Bool
ends_descriptor_at None = false
ends_descriptor_at (Some b) = ends_descriptor b

-- whether a symbol is inside another that the document defines: that which ends with its k-th byte, from 0, where
-- that ends a descriptor and isn't the last
abbrev pub is_inside : Document → List ℕ → ℕ → Bool
is_inside d symbol k =
    ends_descriptor_at (slice_get symbol k)
    && (is_some (slice_get symbol (k + 1)) && is_defined d (take (k + 1) symbol))

-- how many symbols around a symbol a document defines
abbrev pub depth_in : Document → List ℕ → ℕ
depth_in d symbol = count_by (is_inside d symbol) (numbers (length symbol))

-- a definition, how deep it is, and its symbol's kind
pub record Outlined : Type 0 where
  pub depth : ℕ
  pub kind : ℤ
  pub occurrence : Occurrence

abbrev pub outlined : Index → Numbered → Occurrence → Outlined
outlined index d o = record {
  depth = depth_in d.document o.symbol;
  kind = kind_in (entry_of index (record { asked = d; symbol = o.symbol }));
  occurrence = o;
}

-- by where they begin
abbrev pub outlined_cmp : Outlined → Outlined → Ordering
outlined_cmp = on (λ (o : Outlined). start_of o.occurrence.range) position_cmp

-- the definitions of a document; those that begin at one place are in the document's order
abbrev pub outline_in : Index → Option Numbered → Result (List Outlined) Miss
outline_in index None = Err NoDocument
outline_in index (Some d) = Ok (sorted_by outlined_cmp (map (outlined index d) (filter defines d.document.occurrences)))

-- of the document that a path names
abbrev pub outline_of : Index → List ℕ → Result (List Outlined) Miss
outline_of index path = outline_in index (document_named index path)
