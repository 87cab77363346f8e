-- Answers for people: a line for each occurrence and each definition, as compilers and `grep` write them:
-- `PATH:LINE:COLUMN: TEXT`. Lines and columns count from 1.
use Rattle.std.specs.Prelude.{ℕ, ◌+◌, ◌==◌, cond, List, [], ◌∷◌, ◌++◌, length, map, codes, Option, None, Some}
use Rattle.std.specs.List.{count_by, find, flat_map, slice_get}
use Rattle.std.specs.Option.{unwrap_or}
use Rattle.std.specs.Str.{bytes_eq}
use Rattle.std.specs.Fmt.{decimal}
use Rattle.std.specs.Io.BufRead.{strip_last}
use Rattle.scip_records.specs.Range.{RangeNumbers}
use Rattle.scip_records.specs.declared.records.SymbolInformation.{SymbolInformation}
use Rattle.scip_query.specs.Sites.{Site}
use Rattle.scip_query.specs.Kinds.{kind_text}
use Rattle.scip_query.specs.Outline.{Outlined}
use Rattle.scip_query.specs.Finding.{Found}
use Rattle.scip_query.specs.MoreAnswers.{indent}
use Rattle.scip_query.specs.Answers.{Answer, Sites, Texts, Entries, Outlines, Finds, Misses}
use Rattle.scip_pages.specs.Columns.{is_first_byte}
use Rattle.scip_pages.specs.Snapshot.{before_in, lines_of}
use Rattle.scip_pages.specs.declared.told.Source.{Source}

-- the source of the document with a path
abbrev pub source_at : List Source → List ℕ → Option Source
source_at sources path = find (λ (s : Source). bytes_eq s.path path) sources

-- the line with a number from 0; no text where there is none
abbrev pub line_in : Source → ℕ → List ℕ
line_in s number = unwrap_or (slice_get (lines_of s.text) number) []

-- how many characters bytes of a text have
abbrev pub characters : List ℕ → ℕ
characters bytes = count_by is_first_byte bytes

-- the column where a range begins: in characters of its source's line, else as the document counts
abbrev pub column_in : Option Source → RangeNumbers → ℕ
column_in None range = range.start_column + 1
column_in (Some s) range = characters (before_in s.unit (line_in s range.start_line) range) + 1

-- the line of its source, without the `\r` of a line end `\r\n`, else another text
abbrev pub text_in : Option Source → RangeNumbers → List ℕ → List ℕ
text_in None range otherwise = otherwise
text_in (Some s) range otherwise = strip_last 13 (line_in s range.start_line)

-- a place
abbrev pub place_text : Option Source → (path : List ℕ) → RangeNumbers → List ℕ
place_text source path range =
    path ++ codes ":" ++ decimal (range.start_line + 1) ++ codes ":" ++ decimal (column_in source range) ++ codes ": "

-- and its line, else a symbol
abbrev pub shown_by : Option Source → (path : List ℕ) → RangeNumbers → (symbol : List ℕ) → List ℕ
shown_by source path range symbol = place_text source path range ++ text_in source range symbol ++ codes "\n"

abbrev pub shown_line : List Source → (path : List ℕ) → RangeNumbers → (symbol : List ℕ) → List ℕ
shown_line sources path range symbol = shown_by (source_at sources path) path range symbol

abbrev pub site_told : List Source → Site → List ℕ
site_told sources site =
    shown_line sources site.document.relative_path site.occurrence.range site.occurrence.symbol

abbrev pub found_told : List Source → Found → List ℕ
found_told sources f = shown_line sources f.path f.occurrence.range f.occurrence.symbol

-- a definition of an outline: its place; its kind and its symbol, indented
abbrev pub outlined_told : List Source → (path : List ℕ) → Outlined → List ℕ
outlined_told sources path o =
    place_text (source_at sources path) path o.occurrence.range ++ indent o.depth ++ kind_text o.kind ++ codes " "
    ++ o.occurrence.symbol ++ codes "\n"

-- a text with a line end, unless it is empty
abbrev pub told_text : List ℕ → List ℕ
told_text text = cond (length text == 0) [] (text ++ codes "\n")

-- what an entry says: the kind of its symbol, and that; how it is declared; and what documents it
abbrev pub entry_told : SymbolInformation → List ℕ
entry_told entry =
    kind_text entry.details.kind ++ codes " " ++ entry.symbol ++ codes "\n" ++ told_text entry.details.signature.text
    ++ flat_map told_text entry.documentation

-- an answer, with these sources; an outline is of the document with a path
abbrev pub told : List Source → (path : List ℕ) → Answer → List ℕ
told sources path (Sites sites) = flat_map (site_told sources) sites
told sources path (Texts texts) = flat_map told_text texts
told sources path (Entries entries) = flat_map entry_told entries
told sources path (Outlines outline) = flat_map (outlined_told sources path) outline
told sources path (Finds found) = flat_map (found_told sources) found
told sources path (Misses miss) = []

-- the paths of the documents whose places an answer shows
abbrev pub paths_of : (path : List ℕ) → Answer → List (List ℕ)
paths_of path (Sites sites) = map (λ (site : Site). site.document.relative_path) sites
paths_of path (Outlines outline) = path ∷ []
paths_of path (Finds found) = map (λ (f : Found). f.path) found
paths_of path other = []
