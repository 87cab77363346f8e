-- The line that says why a run stops, on standard error. (The texts are this project's own.)
use Rattle.std.specs.Prelude.{ℕ, ◌<◌, ⊤, List, [], ◌++◌, length, codes}
use Rattle.std.specs.Fmt.{decimal}
use Rattle.std.specs.List.{All, slice_get}
use Rattle.std.specs.Option.{option_map, unwrap_or}
use Rattle.source_tree.specs.Files.{TreeFile}
use Rattle.proto_lex.specs.FaultNames.{lex_offset}
use Rattle.proto_parse.specs.FaultNames.{syntax_offset}
use Rattle.scip_build.specs.declared.omission.Omission.{Omission}
use Rattle.protoscip.specs.FaultTexts.{name_of}
use Rattle.protoscip.specs.Faults.{fault_of_omission}
use Rattle.protoscip.specs.Lines.{plain_line, path_line, line_at, placed_line}
use Rattle.protoscip.specs.declared.fault.Fault.{Fault}
use Rattle.protoscip.specs.declared.fault.Fault.TheVariants.{Spawn, Memory, Unread, Lex, Syntax, Duplicate}
use Rattle.protoscip.specs.declared.fault.Fault.TheVariants.{MissingImport, Unresolved, Ambiguous, OptionGap, Uncertain}
use Rattle.protoscip.specs.declared.fault.Fault.TheVariants.{TooLarge, Write, Read, Answer}

-- ---- lines

-- the path of the file with this number; empty if there is none
abbrev pub path_of : List TreeFile → ℕ → List ℕ
path_of tree number = unwrap_or (option_map (λ (file : TreeFile). file.path) (slice_get tree number)) []

-- `protoscip: PATH2@OFFSET2: Duplicate of PATH1@OFFSET1`
abbrev pub duplicate_line : List ℕ → ℕ → List ℕ → ℕ → List ℕ
duplicate_line path at later_path later_at =
    codes "protoscip: " ++ later_path ++ codes "@" ++ decimal later_at
    ++ codes ": Duplicate of " ++ path ++ codes "@" ++ decimal at

-- `protoscip: uncertain: PATH@OFFSET behind PATH2`
abbrev pub uncertain_line : List ℕ → ℕ → List ℕ → List ℕ
uncertain_line path at behind =
    codes "protoscip: uncertain: " ++ path ++ codes "@" ++ decimal at ++ codes " behind " ++ behind

-- the line of a fault, over this tree, with words before the path of the file at fault: `skipped` if the file is left
-- out for it, and `unresolved` if it only has an import, a use or an option without a target
abbrev pub line_with : (skipped unresolved : List ℕ) → List TreeFile → Fault → List ℕ
line_with skipped unresolved tree (Unread number) =
    path_line (skipped ++ path_of tree number) (name_of (Unread number))
line_with skipped unresolved tree (Lex number fault) =
    placed_line (skipped ++ path_of tree number) (lex_offset fault) (name_of (Lex number fault))
line_with skipped unresolved tree (Syntax number fault) =
    placed_line (skipped ++ path_of tree number) (syntax_offset fault) (name_of (Syntax number fault))
line_with skipped unresolved tree (Duplicate first second) =
    duplicate_line (path_of tree first.file) first.span.start (skipped ++ path_of tree second.file) second.span.start
line_with skipped unresolved tree (MissingImport place) =
    line_at (unresolved ++ path_of tree place.file) place.span.start (name_of (MissingImport place))
line_with skipped unresolved tree (Unresolved place) =
    line_at (unresolved ++ path_of tree place.file) place.span.start (name_of (Unresolved place))
line_with skipped unresolved tree (Ambiguous place) =
    line_at (unresolved ++ path_of tree place.file) place.span.start (name_of (Ambiguous place))
line_with skipped unresolved tree (OptionGap place) =
    line_at (unresolved ++ path_of tree place.file) place.span.start (name_of (OptionGap place))
line_with skipped unresolved tree (Uncertain place behind) =
    uncertain_line (path_of tree place.file) place.span.start (path_of tree behind)
line_with skipped unresolved tree fault = plain_line (name_of fault)

-- that of a run's fault: without words
abbrev pub line_of : List TreeFile → Fault → List ℕ
line_of = line_with (codes "") (codes "")

-- ---- the files that a fault names

abbrev pub HasFile : List TreeFile → ℕ → Type 0
HasFile tree number = number < length tree

-- the tree has them
abbrev pub HasFilesOf : List TreeFile → Fault → Type 0
HasFilesOf tree Spawn = ⊤
HasFilesOf tree Memory = ⊤
HasFilesOf tree (Unread number) = HasFile tree number
HasFilesOf tree (Lex number fault) = HasFile tree number
HasFilesOf tree (Syntax number fault) = HasFile tree number
HasFilesOf tree (Duplicate first second) = HasFile tree first.file × HasFile tree second.file
HasFilesOf tree (MissingImport place) = HasFile tree place.file
HasFilesOf tree (Unresolved place) = HasFile tree place.file
HasFilesOf tree (Ambiguous place) = HasFile tree place.file
HasFilesOf tree (OptionGap place) = HasFile tree place.file
HasFilesOf tree (Uncertain place behind) = HasFile tree place.file × HasFile tree behind
HasFilesOf tree TooLarge = ⊤
HasFilesOf tree (Write count) = ⊤
HasFilesOf tree Read = ⊤
HasFilesOf tree (Answer count) = ⊤

-- it has those of all that is told
abbrev pub HaveFilesOf : List TreeFile → List Omission → Type 0
HaveFilesOf tree told = All (λ omission. HasFilesOf tree (fault_of_omission omission)) told
