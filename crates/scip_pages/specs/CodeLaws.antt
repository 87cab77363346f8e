-- Laws of source code in a page.
use Rattle.std.specs.Prelude.{ℕ, ◌≡◌, ◌==◌, List, length, map, Option}
use Rattle.std.specs.List.{flat_map, join_with_byte, slice_split}
use Rattle.scip_pages.specs.declared.code.Link.{Link}
use Rattle.scip_pages.specs.Runs.{runs_of}
use Rattle.scip_pages.specs.Escapes.{pictured}
use Rattle.scip_pages.specs.Plain.{plain}
use Rattle.scip_pages.specs.Code.{Piece, link_of, pieces_of, text_of, code_of}

-- What a page's code shows is the text of its lines, whatever that and its links hold, with the picture of each NUL.
abbrev pub CodeShowsTheLines : Type 0
CodeShowsTheLines =
    (lines : List (List Piece)) → plain (code_of lines) ≡ pictured (join_with_byte 10 (map text_of lines))

-- So it shows the source, if the pieces of each of the source's lines have the line's text.
abbrev pub CodeShowsTheSource : Type 0
CodeShowsTheSource =
    (source : List ℕ) (lines : List (List Piece))
    → map text_of lines ≡ slice_split (λ byte. byte == 10) source → plain (code_of lines) ≡ pictured source

-- The pieces of a line have its text, whatever marks its bytes.
abbrev pub PiecesHaveTheText : Type 0
PiecesHaveTheText =
    (links : List Link) (line : List ℕ) (marks : List (Option ℕ))
    → length marks ≡ length line → text_of (pieces_of links line (runs_of marks)) ≡ line

-- Each byte of a line is in a piece with the link of the occurrence that marks the byte (`marks_of`, of those the one
-- that marks the fewest bytes of the line), and of none if nothing marks it.
abbrev pub links_in : Piece → List (Option Link)
links_in piece = map (λ (byte : ℕ). piece.link) piece.text

abbrev pub PiecesHaveTheLinks : Type 0
PiecesHaveTheLinks =
    (links : List Link) (line : List ℕ) (marks : List (Option ℕ)) → length marks ≡ length line
    → flat_map links_in (pieces_of links line (runs_of marks)) ≡ map (link_of links) marks
