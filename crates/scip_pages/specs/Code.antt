-- Source code in a page: lines of pieces of text, some of which are links.
use Rattle.std.specs.Prelude.{ℕ, ◌+◌, List, [], ◌∷◌, ◌++◌, take, drop, codes, Option, None, Some}
use Rattle.std.specs.List.{flat_map, join_with_byte, slice_get}
use Rattle.std.specs.Option.{option_and_then}
use Rattle.std.specs.Fmt.{decimal}
use Rattle.scip_pages.specs.declared.code.Link.{Link}
use Rattle.scip_pages.specs.declared.runs.Run.{Run}
use Rattle.scip_pages.specs.Escapes.{escape}

-- some of a line's text, and where it leads
pub record Piece : Type 0 where
  pub text : List ℕ
  pub link : Option Link

-- The pieces of a line: as long as its runs, one after another, each with the link of its occurrence.
abbrev pub link_of : List Link → Option ℕ → Option Link
link_of links occurrence = option_and_then (slice_get links) occurrence

abbrev pub pieces_of : List Link → List ℕ → List Run → List Piece
pieces_of links line [] = []
pieces_of links line (run ∷ runs) =
    record { text = take run.len line; link = link_of links run.occurrence } ∷ pieces_of links (drop run.len line) runs

-- the text of pieces
abbrev pub text_of : List Piece → List ℕ
text_of pieces = flat_map (λ (piece : Piece). piece.text) pieces

-- a mark (HTML Standard, 13.1.2.1 "Start tags", 13.1.2.2 "End tags")
abbrev pub mark : List ℕ → List ℕ
mark inside = codes "<" ++ inside ++ codes ">"

-- an attribute with its value between quotes (13.1.2.3 "Attributes")
abbrev pub attribute : List ℕ → List ℕ → List ℕ
attribute name value = codes " " ++ name ++ codes "=\"" ++ escape value ++ codes "\""

-- where a link leads; one that leads nowhere is reached by keys too (6.6.3 "The tabindex attribute")
abbrev pub target_code : Option (List ℕ) → List ℕ
target_code None = attribute (codes "tabindex") (codes "0")
target_code (Some target) = attribute (codes "href") target

-- A link's text is between its marks; its label is shown where a pointer hovers.
abbrev pub linked : Option Link → List ℕ → List ℕ
linked None text = escape text
linked (Some link) text =
    mark (codes "a" ++ target_code link.target ++ attribute (codes "title") link.label) ++ escape text
    ++ mark (codes "/a")

abbrev pub piece_code : Piece → List ℕ
piece_code piece = linked piece.link piece.text

-- the place of a line, to which links lead: `L` and its number
abbrev pub line_mark : ℕ → List ℕ
line_mark number = mark (codes "a" ++ attribute (codes "id") (codes "L" ++ decimal number)) ++ mark (codes "/a")

abbrev pub line_code : ℕ → List Piece → List ℕ
line_code number pieces = line_mark number ++ flat_map piece_code pieces

-- Lines are numbered from 1, and come one below the other.
abbrev pub line_codes : ℕ → List (List Piece) → List (List ℕ)
line_codes number [] = []
line_codes number (pieces ∷ lines) = line_code number pieces ∷ line_codes (number + 1) lines

abbrev pub code_of : List (List Piece) → List ℕ
code_of lines = join_with_byte 10 (line_codes 1 lines)
