-- What pages are made of, and where they are.
use Rattle.std.specs.Prelude.{ℕ, ◌+◌, ◌==◌, Bool, false, ◌&&◌, cond, List, [], ◌++◌, codes, nat_eq, Option, None, Some}
use Rattle.std.specs.List.{ends_with, flat_map, slice_get}
use Rattle.std.specs.Option.{is_some, option_map_or}
use Rattle.scip_records.specs.declared.records.Document.{Document}
use Rattle.scip_records.specs.declared.records.Occurrence.{Occurrence}
use Rattle.scip_query.specs.Tables.{occurrence_listed}
use Rattle.scip_query.specs.declared.place.Place.{Place}
use Rattle.scip_pages.specs.Urls.{folder_of}

-- the sources of an index's documents, by their numbers; none of a document that has no page
abbrev pub Sources : Type 0
Sources = List (Option (List ℕ))

abbrev pub has_page : Sources → ℕ → Bool
has_page sources number = option_map_or (λ (source : Option (List ℕ)). is_some source) (slice_get sources number) false

-- whether two places are one
abbrev pub same_place : Place → Place → Bool
same_place a b = (a.document == b.document) && (a.occurrence == b.occurrence)

-- the line, from 1, on which the occurrence at a place begins
abbrev pub line_or_first : Option Occurrence → ℕ
line_or_first None = 1
line_or_first (Some o) = o.range.start_line + 1

abbrev pub line_listed : List Document → Place → ℕ
line_listed documents place = line_or_first (occurrence_listed documents place)

-- a `~` for a folder whose name ends as that of a page does
abbrev pub mark_of : List ℕ → List ℕ
mark_of name = cond (ends_with nat_eq name (codes ".html")) (codes "~") []

-- for each such folder on a path
abbrev pub folder_marks : List ℕ → List ℕ
folder_marks path = flat_map mark_of (folder_of path)

-- `src` has these marks behind it. So no page is where another has a folder, and none where the first page is. (own)
abbrev pub page_path : List ℕ → List ℕ
page_path path = codes "src" ++ folder_marks path ++ codes "/" ++ path ++ codes ".html"
