-- What is reported, on standard error, of what an index lacks: a line for each thing, and one with their numbers.
-- (The texts are this project's own.)
use Rattle.std.specs.Prelude.{◌≡◌, ℕ, ◌+◌, ◌-◌, Bool, true, false, List, [], ◌∷◌, ◌++◌, length, nat_lt, codes}
use Rattle.std.specs.Prelude.{Option, Some, None, ◌&&◌}
use Rattle.std.specs.Fmt.{decimal}
use Rattle.std.specs.List.{count_by, filter}
use Rattle.source_tree.specs.Files.{TreeFile}
use Rattle.source_tree.specs.Trees.{IsSourceCount}
use Rattle.proto_parse.specs.dialect.Dialect.{Dialect}
use Rattle.scip_build.specs.declared.fault.FileFault.TheVariants as file
use Rattle.scip_build.specs.declared.omission.Omission.{Omission}
use Rattle.scip_build.specs.declared.omission.Omission.TheVariants as omitted
use Rattle.protoscip.specs.Explanations.{IsExplained}
use Rattle.protoscip.specs.FaultLines.{line_with}
use Rattle.protoscip.specs.Faults.{fault_of_omission}
use Rattle.protoscip.specs.Unread.{PathUnread, unread_lines}
use Rattle.protoscip.specs.declared.fault.Fault.{Fault}

-- ---- a line for each

-- the line of the fault for which a tree would be refused, with `skipped: ` or `no target: ` before the path
abbrev pub told_line : List TreeFile → Fault → List ℕ
told_line = line_with (codes "skipped: ") (codes "no target: ")

-- the same, and its explanation if that is asked for
abbrev pub IsToldLine : (explain : Option Dialect) → List TreeFile → Fault → (text : List ℕ) → Type 0
IsToldLine explain tree fault text = IsExplained explain tree fault (told_line tree fault) text

-- ---- numbers

-- a file is left out
abbrev pub is_skipped : Omission → Bool
is_skipped (omitted.File number fault) = true
is_skipped (omitted.Duplicate first second) = true
is_skipped omission = false

-- it is a source, by how many the tree has: their numbers are those below
abbrev pub is_skipped_source : (sources : ℕ) → Omission → Bool
is_skipped_source sources (omitted.File number fault) = nat_lt number sources
is_skipped_source sources (omitted.Duplicate first second) = nat_lt second.file sources
is_skipped_source sources omission = false

-- an import has no target
abbrev pub is_import : Omission → Bool
is_import (omitted.MissingImport place) = true
is_import omission = false

-- a use or an option has none
abbrev pub is_use : Omission → Bool
is_use (omitted.Unresolved place) = true
is_use (omitted.Ambiguous place) = true
is_use (omitted.OptionGap place) = true
is_use omission = false

-- `protoscip: N sources indexed, N skipped, N imports and N uses without a target`
abbrev pub numbers_line : (indexed skipped imports uses : ℕ) → List ℕ
numbers_line indexed skipped imports uses =
    codes "protoscip: " ++ decimal indexed ++ codes " sources indexed, " ++ decimal skipped ++ codes " skipped, "
    ++ decimal imports ++ codes " imports and " ++ decimal uses ++ codes " uses without a target"

-- of a tree with this many sources
abbrev pub counts_line : (sources : ℕ) → List Omission → List ℕ
counts_line sources told =
    numbers_line (sources - count_by (is_skipped_source sources) told) (count_by is_skipped told)
    (count_by is_import told) (count_by is_use told)

-- ---- all of it

-- a line with its end
abbrev pub IsEndedLine : (explain : Option Dialect) → List TreeFile → Omission → (text : List ℕ) → Type 0
IsEndedLine explain tree omission text =
    (line : List ℕ) × IsToldLine explain tree (fault_of_omission omission) line × (text ≡ line ++ codes "\n")

-- the lines in their order
abbrev pub AreLines : (explain : Option Dialect) → List TreeFile → List Omission → (text : List ℕ) → Type 0
AreLines explain tree [] text = text ≡ []
AreLines explain tree (first ∷ others) text =
    (line rest : List ℕ) × IsEndedLine explain tree first line × AreLines explain tree others rest
    × (text ≡ line ++ rest)

-- and the numbers
abbrev pub IsToldText : (explain : Option Dialect) → List TreeFile → (sources : ℕ) → List Omission → (text : List ℕ)
    → Type 0
IsToldText explain tree sources told text =
    (lines : List ℕ) × AreLines explain tree told lines × (text ≡ lines ++ counts_line sources told)

-- what is reported of an index that lacks this: nothing if it lacks nothing, else all of it
abbrev pub IsTextOfOmissions : (explain : Option Dialect) → List TreeFile → List Omission → Option (List ℕ) → Type 0
IsTextOfOmissions explain tree [] text = text ≡ None
IsTextOfOmissions explain tree (first ∷ others) text =
    (sources : ℕ) × IsSourceCount tree sources
    × ((told : List ℕ) × IsToldText explain tree sources (first ∷ others) told × (text ≡ Some told))

-- ---- with what couldn't be read

-- It isn't told of a file that couldn't be read when its tree was made. Such a file is among what couldn't be read, if
-- that is told.
abbrev pub is_read : Omission → Bool
is_read (omitted.File number file.Unread) = false
is_read omission = true

-- so this is told beside what couldn't be read
abbrev pub told_beside : (unread : List PathUnread) → List Omission → List Omission
told_beside [] told = told
told_beside (first ∷ others) told = filter is_read told

abbrev pub is_skipped_read : Omission → Bool
is_skipped_read omission = is_read omission && is_skipped omission

-- a file is left out, and isn't among what couldn't be read
abbrev pub is_left_beside : (unread : List PathUnread) → Omission → Bool
is_left_beside [] = is_skipped
is_left_beside (first ∷ others) = is_skipped_read

-- how many are left out, with these
abbrev pub left_out : (unread : List PathUnread) → List Omission → ℕ
left_out unread told = length unread + count_by (is_left_beside unread) told

-- the numbers: what couldn't be read is skipped
abbrev pub counts_line_with : (sources : ℕ) → (unread : List PathUnread) → List Omission → List ℕ
counts_line_with sources unread told =
    numbers_line (sources - count_by (is_skipped_source sources) told) (left_out unread told)
    (count_by is_import told) (count_by is_use told)

-- the lines of what couldn't be read, then the others, and then the numbers
abbrev pub IsToldTextWith : (explain : Option Dialect) → List TreeFile → (sources : ℕ) → (unread : List PathUnread)
    → List Omission → (text : List ℕ) → Type 0
IsToldTextWith explain tree sources unread told text =
    (lines : List ℕ) × AreLines explain tree (told_beside unread told) lines
    × (text ≡ unread_lines explain unread ++ (lines ++ counts_line_with sources unread told))

-- what is reported of an index that lacks this: nothing if nothing is lacking, else all of it
abbrev pub IsTextOfAllOmissions : (explain : Option Dialect) → List TreeFile → (unread : List PathUnread)
    → List Omission → Option (List ℕ) → Type 0
IsTextOfAllOmissions explain tree [] told text = IsTextOfOmissions explain tree told text
IsTextOfAllOmissions explain tree (first ∷ others) told text =
    (sources : ℕ) × IsSourceCount tree sources
    × ((said : List ℕ) × IsToldTextWith explain tree sources (first ∷ others) told said × (text ≡ Some said))
