-- What a query asks about: the occurrence at a position of a document, and its symbol.
use Rattle.std.specs.Prelude.{ℕ, Bool, not, ◌&&◌, List, [], Option, None, Some, Result, Ok, Err, filter}
use Rattle.std.specs.List.{find, list_all}
use Rattle.std.specs.Option.{option_and_then}
use Rattle.std.specs.Str.{bytes_eq}
use Rattle.std.specs.declared.cmp.Ordering.{Ordering}
use Rattle.std.specs.Ordering.{nat_cmp, on, flip_args, then_cmp, is_lt}
use Rattle.std.specs.Cmp.Lexicographic.{slice_cmp}
use Rattle.scip_records.specs.declared.records.Index.{Index}
use Rattle.scip_records.specs.declared.records.Document.{Document}
use Rattle.scip_records.specs.declared.records.Occurrence.{Occurrence}
use Rattle.scip_query.specs.Positions.{position_cmp, start_of, end_of, contains}
use Rattle.scip_query.specs.declared.position.Position.{Position}
use Rattle.scip_query.specs.Sites.{Numbered, document_named}
use Rattle.scip_query.specs.declared.miss.Miss.{Miss}
use Rattle.scip_query.specs.declared.miss.Miss.TheVariants.{NoDocument, NothingThere}

-- an occurrence is at a position if it has a symbol and its range contains the position
abbrev pub stands_at : Position → Occurrence → Bool
stands_at p o = not (bytes_eq o.symbol []) && contains o.range p

-- the innermost first: by the later start, then the earlier end, then the lesser symbol
abbrev pub innermost_cmp : Occurrence → Occurrence → Ordering
innermost_cmp =
    then_cmp (flip_args (on (λ (o : Occurrence). start_of o.range) position_cmp))
    (then_cmp (on (λ (o : Occurrence). end_of o.range) position_cmp)
    (on (λ (o : Occurrence). o.symbol) (slice_cmp nat_cmp)))

-- the innermost of some occurrences, and the first listed of several such: the first than which none is before
abbrev pub innermost_of : List Occurrence → Option Occurrence
innermost_of occurrences = find (λ o. list_all (λ other. not (is_lt (innermost_cmp other o))) occurrences) occurrences

-- the occurrence at a position of a document: of those that are there the innermost
abbrev pub occurrence_in : Document → Position → Option Occurrence
occurrence_in document p = innermost_of (filter (stands_at p) document.occurrences)

-- the occurrence at a position of the document that a path names
abbrev pub occurrence_at : Index → List ℕ → Position → Option Occurrence
occurrence_at index path p = option_and_then (λ (d : Numbered). occurrence_in d.document p) (document_named index path)

-- a symbol, and the document where it is asked for
pub record Subject : Type 0 where
  pub asked : Numbered
  pub symbol : List ℕ

-- the symbol at a position of the document that a path names
abbrev pub subject_found : Numbered → Option Occurrence → Result Subject Miss
subject_found d None = Err NothingThere
subject_found d (Some o) = Ok (record { asked = d; symbol = o.symbol })

abbrev pub subject_of : Option Numbered → Position → Result Subject Miss
subject_of None p = Err NoDocument
subject_of (Some d) p = subject_found d (occurrence_in d.document p)

abbrev pub subject_at : Index → List ℕ → Position → Result Subject Miss
subject_at index path p = subject_of (document_named index path) p
