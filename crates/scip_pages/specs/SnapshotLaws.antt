-- Laws of snapshots: taking away what isn't the source's gives the source.
use Rattle.std.specs.Prelude.{ℕ, ◌≡◌, ◌-◌, Bool, not, List, [], ◌∷◌, length, take, drop, map, filter, nat_eq, codes, Ok}
use Rattle.std.specs.List.{join_with_byte, starts_with}
use Rattle.scip_records.specs.declared.records.Index.{Index}
use Rattle.scip_pages.specs.Snapshot.{flat_byte, lines_of, snapshot_of}

-- the lines of a text each of which ends with a line feed
abbrev pub ended_lines : List ℕ → List (List ℕ)
ended_lines text = take (length (lines_of text) - 1) (lines_of text)

-- the source in a snapshot: the lines that don't begin with the sign of a comment, each without its first two bytes,
-- and the last without its end
abbrev pub is_source_line : List ℕ → Bool
is_source_line line = not (starts_with nat_eq line (codes "//"))

abbrev pub source_in : List ℕ → List ℕ
source_in text = join_with_byte 10 (map (drop 2) (filter is_source_line (ended_lines text)))

-- A snapshot has its source, byte for byte, whatever the index holds.
abbrev pub HasTheSource : Type 0
HasTheSource = (index : Index) (number : ℕ) (source text : List ℕ) → snapshot_of index number source ≡ Ok text
    → source_in text ≡ source

-- A text with blanks for its line feeds is one line.
abbrev pub FlatIsOneLine : Type 0
FlatIsOneLine = (text : List ℕ) → lines_of (map flat_byte text) ≡ map flat_byte text ∷ []
