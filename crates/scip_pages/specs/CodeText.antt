-- The code of a page.
use Rattle.std.specs.Prelude.{ℕ, ◌-◌, ◌==◌, Bool, false, cond, List, [], ◌∷◌, ◌++◌, codes, length, filter, Option, None}
use Rattle.std.specs.Prelude.{Some}
use Rattle.std.specs.List.{flat_map, slice_get, range_with_len}
use Rattle.std.specs.Option.{unwrap_or}
use Rattle.scip_records.specs.declared.records.Occurrence.{Occurrence}
use Rattle.scip_query.specs.Tables.{numbers}
use Rattle.scip_pages.specs.declared.columns.ColumnUnit.{ColumnUnit}
use Rattle.scip_pages.specs.declared.runs.Span.{Span}
use Rattle.scip_pages.specs.declared.code.Link.{Link}
use Rattle.scip_pages.specs.Runs.{span_on, runs_of, marks_of}
use Rattle.scip_pages.specs.Code.{Piece, pieces_of, line_code}

-- the numbers of the occurrences that begin on a line
abbrev pub begins_or_not : ℕ → Option Occurrence → Bool
begins_or_not line None = false
begins_or_not line (Some o) = o.range.start_line == line

abbrev pub begins_on : List Occurrence → ℕ → ℕ → Bool
begins_on occurrences line number = begins_or_not line (slice_get occurrences number)

abbrev pub beginning : List Occurrence → ℕ → List ℕ
beginning occurrences line = filter (begins_on occurrences line) (numbers (length occurrences))

-- what an occurrence marks of the line on which it begins
abbrev pub one_or_none : Option Span → List Span
one_or_none None = []
one_or_none (Some span) = span ∷ []

abbrev pub spans_or_none : ColumnUnit → List ℕ → ℕ → Option Occurrence → List Span
spans_or_none unit line number None = []
spans_or_none unit line number (Some o) = one_or_none (span_on unit o.range.start_line line number o.range)

abbrev pub span_of : ColumnUnit → List Occurrence → List ℕ → ℕ → List Span
span_of unit occurrences line number = spans_or_none unit line number (slice_get occurrences number)

abbrev pub spans_of : ColumnUnit → List Occurrence → List ℕ → List ℕ → List Span
spans_of unit occurrences line marking = flat_map (span_of unit occurrences line) marking

-- the pieces of a line that some occurrences mark
abbrev pub pieces_with : ColumnUnit → List Occurrence → List Link → List ℕ → List ℕ → List Piece
pieces_with unit occurrences links line marking =
    pieces_of links line (runs_of (marks_of (spans_of unit occurrences line marking) (length line)))

-- the line with a number from 0; none is as an empty one
abbrev pub line_at : List (List ℕ) → ℕ → List ℕ
line_at lines number = unwrap_or (slice_get lines number) []

-- a line is below the one before it; the first has the number 1
abbrev pub lead : ℕ → List ℕ
lead number = cond (number == 1) [] (codes "\n")

abbrev pub line_text : ColumnUnit → List Occurrence → List Link → List (List ℕ) → List ℕ → ℕ → List ℕ
line_text unit occurrences links lines marking number =
    lead number ++ line_code number (pieces_with unit occurrences links (line_at lines (number - 1)) marking)

abbrev pub line_by : ColumnUnit → List Occurrence → List Link → List (List ℕ) → (ℕ → List ℕ) → ℕ → List ℕ
line_by unit occurrences links lines on number = line_text unit occurrences links lines (on (number - 1)) number

-- The code: all lines, each marked by the occurrences that begin on it.
abbrev pub code_text : ColumnUnit → List Occurrence → List Link → List (List ℕ) → List ℕ
code_text unit occurrences links lines =
    flat_map (line_by unit occurrences links lines (beginning occurrences)) (range_with_len 1 (length lines))
