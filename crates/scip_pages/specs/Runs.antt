-- What of a line occurrences mark, byte by byte, and the runs of bytes of one mark.
use Rattle.std.specs.Prelude.{ℕ, ◌+◌, ◌-◌, ◌==◌, Bool, true, false, nat_lt, nat_le, ◌&&◌, cond, List, [], ◌∷◌, length}
use Rattle.std.specs.Prelude.{map, Option, None, Some, fold}
use Rattle.std.specs.List.{range_with_len}
use Rattle.std.specs.Option.{option_map, option_and_then}
use Rattle.scip_records.specs.Range.{RangeNumbers}
use Rattle.scip_pages.specs.declared.columns.ColumnUnit.{ColumnUnit}
use Rattle.scip_pages.specs.declared.runs.Span.{Span}
use Rattle.scip_pages.specs.declared.runs.Run.{Run}
use Rattle.scip_pages.specs.Columns.{offset_of}

-- Where a range begins on a line with a number: on its first line at its column, on a later one at the line's start.
abbrev pub start_on : ColumnUnit → ℕ → List ℕ → RangeNumbers → Option ℕ
start_on unit number line range =
    cond (range.start_line == number) (offset_of unit line range.start_column)
    (cond (nat_lt range.start_line number) (Some 0) None)

-- Where it ends there: on its last line at its column, on an earlier one at the line's end.
abbrev pub end_on : ColumnUnit → ℕ → List ℕ → RangeNumbers → Option ℕ
end_on unit number line range =
    cond (range.end_line == number) (offset_of unit line range.end_column)
    (cond (nat_lt number range.end_line) (Some (length line)) None)

-- the bytes from one offset up to, and without, another; none if there is none between them
abbrev pub span_between : ℕ → ℕ → ℕ → Option Span
span_between occurrence from to =
    cond (nat_lt from to) (Some (record { start = from; end = to; occurrence = occurrence })) None

-- What a range marks of a line: nothing if it isn't there, is empty, or has a column that the line hasn't.
abbrev pub span_on : ColumnUnit → ℕ → List ℕ → ℕ → RangeNumbers → Option Span
span_on unit number line occurrence range =
    option_and_then (λ from. option_and_then (λ to. span_between occurrence from to) (end_on unit number line range))
    (start_on unit number line range)

-- a span is as wide as it has bytes, which are those of one line, and covers these
abbrev pub width : Span → ℕ
width span = span.end - span.start

abbrev pub covers : Span → ℕ → Bool
covers span at = nat_le span.start at && nat_lt at span.end

-- the narrower of two, and the first if they are equally wide
abbrev pub narrower : Option Span → Span → Span
narrower None span = span
narrower (Some other) span = cond (nat_lt (width span) (width other)) span other

-- The narrowest of the spans that cover a byte, and the first listed of several such.
abbrev pub span_at : List Span → ℕ → Option Span
span_at spans at = fold (λ (found : Option Span) (span : Span). cond (covers span at)
    (Some (narrower found span)) found) None spans

-- The bytes of a line, each with the number of the occurrence that marks it.
abbrev pub number_of : Option Span → Option ℕ
number_of span = option_map (λ (s : Span). s.occurrence) span

abbrev pub marks_of : List Span → ℕ → List (Option ℕ)
marks_of spans len = map number_of (map (span_at spans) (range_with_len 0 len))

abbrev pub same_mark : Option ℕ → Option ℕ → Bool
same_mark None None = true
same_mark None (Some b) = false
same_mark (Some a) None = false
same_mark (Some a) (Some b) = a == b

-- so many bytes of a mark before runs
abbrev pub onto_runs : ℕ → Option ℕ → List Run → List Run
onto_runs n mark [] = record { len = n; occurrence = mark } ∷ []
onto_runs n mark (run ∷ runs) =
    cond (same_mark mark run.occurrence)
    (record { len = n + run.len; occurrence = mark } ∷ runs)
    (record { len = n; occurrence = mark } ∷ (run ∷ runs))

-- Neighbours of one mark make one run.
abbrev pub runs_of : List (Option ℕ) → List Run
runs_of [] = []
runs_of (mark ∷ marks) = onto_runs 1 mark (runs_of marks)
