-- The occurrences of a symbol: its references, and those that define it.
use Rattle.std.specs.Prelude.{ℕ, ◌==◌, Bool, not, ◌&&◌, ◌||◌, List, pos, codes, Result, map, filter, nat_eq}
use Rattle.std.specs.List.{starts_with}
use Rattle.std.specs.Result.{result_map_both}
use Rattle.std.specs.Str.{bytes_eq}
use Rattle.std.specs.Int.{w32, int_bit_and}
use Rattle.std.specs.Ordering.{int_eq}
use Rattle.scip_records.specs.declared.records.Index.{Index}
use Rattle.scip_records.specs.declared.records.Occurrence.{Occurrence}
use Rattle.scip_query.specs.declared.position.Position.{Position}
use Rattle.scip_query.specs.Sites.{Site, sites_of}
use Rattle.scip_query.specs.OccurrenceAt.{Subject, subject_at}
use Rattle.scip_query.specs.declared.miss.Miss.{Miss}
use Rattle.scip_query.specs.declared.place.Place.{Place}

-- a local symbol belongs only to its document (`scip.proto`, Symbol: `local ` and a local id)
abbrev pub is_local : List ℕ → Bool
is_local symbol = starts_with nat_eq symbol (codes "local ")

-- an occurrence is of a subject if it has its symbol: in any document, or of a local symbol in the subject's own
abbrev pub is_of : Subject → Site → Bool
is_of subject site =
    bytes_eq site.occurrence.symbol subject.symbol
    && (not (is_local subject.symbol) || (site.place.document == subject.asked.number))

-- an occurrence defines its symbol if bit 1 of its roles is set (`scip.proto`, SymbolRole.Definition)
abbrev pub is_definition : Occurrence → Bool
is_definition o = not (int_eq (int_bit_and w32 o.symbol_roles (pos 1)) (pos 0))

-- all occurrences of a subject, its definitions among them, in the index's order
abbrev pub references_of : Index → Subject → List Site
references_of index subject = filter (is_of subject) (sites_of index)

-- those that define it
abbrev pub definitions_of : Index → Subject → List Site
definitions_of index subject =
    filter (λ (site : Site). is_of subject site && is_definition site.occurrence) (sites_of index)

-- of what is at a position of the document that a path names
abbrev pub references_at : Index → List ℕ → Position → Result (List Site) Miss
references_at index path p = result_map_both (references_of index) (λ miss. miss) (subject_at index path p)

abbrev pub definitions_at : Index → List ℕ → Position → Result (List Site) Miss
definitions_at index path p = result_map_both (definitions_of index) (λ miss. miss) (subject_at index path p)

-- where they are listed
abbrev pub site_places : Result (List Site) Miss → Result (List Place) Miss
site_places found = result_map_both (map (λ (site : Site). site.place)) (λ miss. miss) found
