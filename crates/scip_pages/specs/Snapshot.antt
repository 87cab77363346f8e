-- The snapshot of a document: its source, and below each line the occurrences that begin on it, in the form of SCIP's
-- own snapshots (`scip snapshot` of the repository of SCIP).
use Rattle.std.specs.Prelude.{ℕ, ℤ, ◌==◌, Bool, false, nat_lt, nat_le, not, ◌&&◌, ◌||◌, cond, List, [], ◌∷◌}
use Rattle.std.specs.Prelude.{◌++◌, length, map, filter, take, drop, codes, pos, Option, None, Some, Result, Ok, Err}
use Rattle.std.specs.List.{flat_map, slice_get, slice_split, position, enumerate_from}
use Rattle.std.specs.Option.{option_and_then, unwrap_or}
use Rattle.std.specs.Int.{w32, int_bit_and}
use Rattle.std.specs.Io.BufRead.{strip_last}
use Rattle.std.specs.Ordering.{int_eq}
use Rattle.scip_records.specs.Range.{RangeNumbers}
use Rattle.scip_records.specs.declared.records.Index.{Index}
use Rattle.scip_records.specs.declared.records.Document.{Document}
use Rattle.scip_records.specs.declared.records.Occurrence.{Occurrence}
use Rattle.scip_records.specs.declared.records.SymbolInformation.{SymbolInformation}
use Rattle.scip_records.specs.Texts.{unless_empty}
use Rattle.scip_query.specs.References.{is_definition}
use Rattle.scip_query.specs.Documentation.{texts_of}
use Rattle.scip_query.specs.Entries.{kind_in, signature_in}
use Rattle.scip_query.specs.Kinds.{kind_text}
use Rattle.scip_query.specs.BySymbol.{entry_in}
use Rattle.scip_pages.specs.declared.columns.ColumnUnit.{ColumnUnit}
use Rattle.scip_pages.specs.declared.snapshot_fault.SnapshotFault.{SnapshotFault}
use Rattle.scip_pages.specs.declared.snapshot_fault.SnapshotFault.TheVariants.{NoDocument, NoUnit, Misfit}
use Rattle.scip_pages.specs.Columns.{is_first_byte, offset_of, unit_of}

-- the lines of a text: what is between its line feeds, and before and after them
abbrev pub lines_of : List ℕ → List (List ℕ)
lines_of text = slice_split (λ b. b == 10) text

-- ---- ranges that fit a source

-- the offset of a column of the line with a number, if the source has that line and the line that column
abbrev pub offset_at : ColumnUnit → List (List ℕ) → ℕ → ℕ → Option ℕ
offset_at unit lines line column = option_and_then (λ (l : List ℕ). offset_of unit l column) (slice_get lines line)

-- from one place up to another, which isn't before it
abbrev pub is_ordered : RangeNumbers → Option ℕ → Option ℕ → Bool
is_ordered range (Some from) (Some to) =
    nat_lt range.start_line range.end_line || ((range.start_line == range.end_line) && nat_le from to)
is_ordered range (Some from) None = false
is_ordered range None to = false

-- a range fits a source if both its places are in it, and its end isn't before its start
abbrev pub fits : ColumnUnit → List (List ℕ) → Occurrence → Bool
fits unit lines o =
    is_ordered o.range (offset_at unit lines o.range.start_line o.range.start_column)
    (offset_at unit lines o.range.end_line o.range.end_column)

-- the number of the first occurrence whose range doesn't fit
abbrev pub misfit : ColumnUnit → List (List ℕ) → List Occurrence → Option ℕ
misfit unit lines occurrences = position (λ o. not (fits unit lines o)) occurrences

-- ---- what is below a line

-- Below a tab is a tab, so that what follows is below what it is about; below each other character a sign.
abbrev pub below_byte : ℕ → ℕ → List ℕ
below_byte sign byte = cond (byte == 9) (9 ∷ []) (cond (is_first_byte byte) (sign ∷ []) [])

abbrev pub below : ℕ → List ℕ → List ℕ
below sign bytes = flat_map (below_byte sign) bytes

-- The end of a line's bytes that a range covers, if it begins on that line. No caret is below the `\r` of a line end
-- `\r\n`.
abbrev pub end_in : ColumnUnit → List ℕ → RangeNumbers → ℕ
end_in unit line range =
    cond (range.start_line == range.end_line) (unwrap_or (offset_of unit line range.end_column) 0)
    (length (strip_last 13 line))

-- what is before it
abbrev pub before_in : ColumnUnit → List ℕ → RangeNumbers → List ℕ
before_in unit line range =
    take (unwrap_or (offset_of unit line range.start_column) 0) (take (end_in unit line range) line)

-- and what is in it
abbrev pub inside_in : ColumnUnit → List ℕ → RangeNumbers → List ℕ
inside_in unit line range =
    drop (unwrap_or (offset_of unit line range.start_column) 0) (take (end_in unit line range) line)

-- an occurrence is a definition, an import or a reference (`scip.proto`, SymbolRole: bits 1 and 2)
abbrev pub is_import : Occurrence → Bool
is_import o = not (int_eq (int_bit_and w32 o.symbol_roles (pos 2)) (pos 0))

abbrev pub role_of : Occurrence → List ℕ
role_of o = cond (is_definition o) (codes "definition") (cond (is_import o) (codes "import") (codes "reference"))

-- a text on one line: its line feeds become blanks
abbrev pub flat_byte : ℕ → ℕ
flat_byte byte = cond (byte == 10) 32 byte

-- A line that isn't the source's begins with the sign of a comment.
abbrev pub comment : List ℕ → List ℕ
comment text = codes "//" ++ text ++ codes "\n"

-- carets below what the range covers, the role and the symbol
abbrev pub caret_line : List ℕ → List ℕ → Occurrence → List ℕ
caret_line before inside o =
    comment (below 32 before ++ below 94 inside ++ codes " " ++ role_of o ++ codes " " ++ map flat_byte o.symbol)

-- a line that says what the definition is, if that is known
abbrev pub kind_line : List ℕ → ℤ → List ℕ
kind_line before kind =
    cond (int_eq kind (pos 0)) [] (comment (below 32 before ++ codes "kind " ++ kind_text kind))

-- a text below what it is, each of its lines after `> `
abbrev pub note_line : List ℕ → List ℕ → List ℕ
note_line before line = comment (below 32 before ++ codes "> " ++ line)

abbrev pub note_head : List ℕ → List ℕ → List ℕ
note_head head before = comment (below 32 before ++ head)

abbrev pub note : List ℕ → List ℕ → List ℕ → List ℕ
note head before text = note_head head before ++ flat_map (note_line before) (lines_of text)

abbrev pub signature_note : List ℕ → List ℕ → List ℕ
signature_note before text = note (codes "signature_documentation") before text

abbrev pub documentation_note : List ℕ → List ℕ → List ℕ
documentation_note before text = note (codes "documentation") before text

-- what the entry of a symbol says: its kind, its signature and its documentation
abbrev pub about : List ℕ → Option SymbolInformation → List ℕ
about before entry =
    kind_line before (kind_in entry) ++ flat_map (signature_note before) (unless_empty (signature_in entry))
    ++ flat_map (documentation_note before) (texts_of entry)

-- an occurrence, and after it what its symbol's entry says, if it is a definition
abbrev pub mark : List ℕ → List ℕ → Option SymbolInformation → Occurrence → List ℕ
mark before inside entry o = caret_line before inside o ++ cond (is_definition o) (about before entry) []

abbrev pub mark_in : ColumnUnit → List ℕ → (List ℕ → Option SymbolInformation) → Occurrence → List ℕ
mark_in unit line entries o =
    mark (before_in unit line o.range) (inside_in unit line o.range) (entries o.symbol) o

-- ---- the text of a snapshot

abbrev pub starts_on : ℕ → Occurrence → Bool
starts_on number o = o.range.start_line == number

-- A line of the source comes after two blanks, as wide as the sign of a comment.
abbrev pub source_line : List ℕ → List ℕ
source_line line = codes "  " ++ line ++ codes "\n"

-- Below each line are the occurrences that begin on it.
abbrev pub line_text : ColumnUnit → (List ℕ → Option SymbolInformation) → List Occurrence → List ℕ → List ℕ
line_text unit entries occurrences line =
    source_line line ++ flat_map (mark_in unit line entries) occurrences

abbrev pub text_of : ColumnUnit → (List ℕ → Option SymbolInformation) → (ℕ → List Occurrence) → List (List ℕ) → List ℕ
text_of unit entries on lines =
    flat_map (λ (l : ℕ × List ℕ). line_text unit entries (on l.0) l.1) (enumerate_from 0 lines)

-- the occurrences that begin on the line with a number, in the index's order
abbrev pub beginning : List Occurrence → ℕ → List Occurrence
beginning occurrences number = filter (starts_on number) occurrences

-- the text, or the first occurrence that doesn't fit
abbrev pub text_or_misfit : List ℕ → Option ℕ → Result (List ℕ) SnapshotFault
text_or_misfit text None = Ok text
text_or_misfit text (Some number) = Err (Misfit number)

abbrev pub in_unit : Option ColumnUnit → (List ℕ → Option SymbolInformation) → List Occurrence → List (List ℕ)
    → Result (List ℕ) SnapshotFault
in_unit None entries occurrences lines = Err NoUnit
in_unit (Some unit) entries occurrences lines =
    text_or_misfit (text_of unit entries (beginning occurrences) lines) (misfit unit lines occurrences)

abbrev pub in_document : Option Document → (List ℕ → Option SymbolInformation) → List (List ℕ) → Result (List ℕ) SnapshotFault
in_document None entries lines = Err NoDocument
in_document (Some d) entries lines = in_unit (unit_of d.position_encoding) entries d.occurrences lines

-- The snapshot of the document with a number, with its source; or why it has none.
abbrev pub snapshot_of : Index → ℕ → List ℕ → Result (List ℕ) SnapshotFault
snapshot_of index number source =
    in_document (slice_get index.documents number) (entry_in index number) (lines_of source)
