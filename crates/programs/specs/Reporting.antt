-- The report of a run over a tree: what it tells, and where it goes.
-- `allows` says which choices may come for a declaration. `ran` is what a run answers: what its index lacks, or its
-- fault.
use Rattle.std.specs.Prelude.{◌≡◌, ℕ, Bool, true, false, List, [], Option, Some, None, Result, Ok, Err}
use Rattle.std.specs.Prelude.{string_bytes}
use Rattle.std.specs.Option.{option_map}
use Rattle.std.specs.Result.{result_map_both}
use Rattle.streams.specs.Writers.{IsCutOff, IsWritten, writing}
use Rattle.proto_decl.specs.Values.{Seen}
use Rattle.index_hooks.specs.declared.choice.Choice.{Choice}
use Rattle.source_tree.specs.Files.{TreeFile}
use Rattle.source_tree.specs.Trees.{IsSourceCount}
use Rattle.source_files.specs.Places.{IsBegun}
use Rattle.scip_build.specs.declared.omission.Omission.{Omission}
use Rattle.scip_build.specs.declared.settings.Settings.{Settings}
use Rattle.fault_reports.specs.Findings.{Found}
use Rattle.fault_reports.specs.Reports.{report_of}
use Rattle.fault_reports.specs.declared.report.ReportFormat.{ReportFormat}
use Rattle.protoscip.specs.Findings.{all_findings, counts_with, refused_findings}
use Rattle.protoscip.specs.ToldTrees.{IsToldOf, MayNotTell}
use Rattle.protoscip.specs.FaultTexts.{status_of}
use Rattle.protoscip.specs.declared.recorded.Recorded.{Recorded}
use Rattle.protoscip.specs.declared.fault.Fault.{Fault}
use Rattle.protoscip.specs.declared.fault.Fault.TheVariants.{Spawn, Memory, Unread, Lex, Syntax, Duplicate}
use Rattle.protoscip.specs.declared.fault.Fault.TheVariants.{MissingImport, Unresolved, Ambiguous, OptionGap, Uncertain}
use Rattle.protoscip.specs.declared.fault.Fault.TheVariants.{TooLarge, Write, Read, Answer}
use Rattle.protoscip.specs.Unread.{PathUnread}
use Rattle.command_line.specs.declared.options.limits.Limits.{Limits}
use Rattle.command_line.specs.declared.options.report.ReportOptions.{ReportOptions}
use Rattle.programs.specs.Limits.{IsBrokenBy, limit_status}
use Rattle.programs.specs.Placing.{Place, IsGivenUp, IsLeft, IsPut, IsRefused}
use Rattle.programs.specs.declared.limits.LimitFault.{LimitFault}

-- what a run answers, but for all that it records beside
abbrev pub told_by : Result Recorded Fault → Result (List Omission) Fault
told_by ran = result_map_both (λ recorded. recorded.told) (λ fault. fault) ran

-- the answer of a run that lacks this, or has a fault
abbrev pub ran_of : (told : List Omission) → Option Fault → Result (List Omission) Fault
ran_of told None = Ok told
ran_of told (Some fault) = Err fault

-- ---- what it tells

-- a fault of the files of a tree
abbrev pub is_of_files : Fault → Bool
is_of_files Spawn = false
is_of_files Memory = false
is_of_files (Unread number) = true
is_of_files (Lex number fault) = true
is_of_files (Syntax number fault) = true
is_of_files (Duplicate first second) = true
is_of_files (MissingImport place) = true
is_of_files (Unresolved place) = true
is_of_files (Ambiguous place) = true
is_of_files (OptionGap place) = true
is_of_files (Uncertain place behind) = true
is_of_files TooLarge = false
is_of_files (Write count) = false
is_of_files Read = false
is_of_files (Answer count) = false

-- what is told beside a fault: if it is of the files, all that would be told if what has a fault were left out
abbrev pub IsToldBeside : (allows : Seen → Choice → Type 0) → Settings → List TreeFile → Fault
    → (told : List Omission) → Type 0
IsToldBeside allows settings tree fault told =
    (is_of_files fault ≡ true → IsToldOf allows settings tree told)
    × (is_of_files fault ≡ false → told ≡ [])

-- its findings, and what they are counted by: what couldn't be read, and what the index lacks; or the fault, and what
-- is told beside it. Of a run that is refused nothing is told that couldn't be read: if that isn't the fault itself,
-- the run leaves it out, and tells its fault alone.
pub data Finds (allows : Seen → Choice → Type 0) (settings : Settings) (tree : List TreeFile)
    (unread : List PathUnread)
    : (ran : Result (List Omission) Fault) → List Found → (skipped : List PathUnread) → (told : List Omission)
    → Type 0 where
  of_index : {told : List Omission}
      → Finds allows settings tree unread (Ok told) (all_findings tree unread told) unread told
  of_fault : {fault : Fault} {told : List Omission} → IsToldBeside allows settings tree fault told
      → Finds allows settings tree unread (Err fault) (refused_findings tree fault told) [] told

-- so many sources its counts begin with: without an index, none is indexed
abbrev pub AreCounted : List TreeFile → (ran : Result (List Omission) Fault) → (sources : ℕ) → Type 0
AreCounted tree (Ok told) sources = IsSourceCount tree sources
AreCounted tree (Err fault) sources = sources ≡ 0

-- the bytes of a report of a run that is to end with a status
pub record IsReport (allows : Seen → Choice → Type 0) (settings : Settings) (tree : List TreeFile)
    (unread : List PathUnread) (format : ReportFormat) (ran : Result (List Omission) Fault) (status : ℕ)
    (bytes : List ℕ) : Type 0 where
  pub findings : List Found
  pub skipped : List PathUnread
  pub told : List Omission
  pub sources : ℕ
  pub found : Finds allows settings tree unread ran findings skipped told
  pub sources_are : AreCounted tree ran sources
  pub bytes_are : bytes ≡ report_of format findings (counts_with sources skipped told status)

-- the status that a run is to end with, if its place takes the index
abbrev pub due_status : (ran : Result (List Omission) Fault) → (broken : Option LimitFault) → ℕ
due_status (Ok told) None = 0
due_status (Ok told) (Some limit) = limit_status
due_status (Err fault) broken = status_of fault

-- ---- where it goes

-- A report of some bytes, of which `Is` holds, is put at its place; or writing it fails, or the place refuses it; or it
-- can't be made. But for the first, the place is as it was.
pub data GoesTo {Q V : Type 0} (at : Place Q V) (Is : List ℕ → Type 0) (workers : ℕ)
    : Result (Unit {0}) Fault → Type 0 where
  put : {bytes : List ℕ} → Is bytes → IsPut at bytes → GoesTo at Is workers (Ok tt)
  cut_off : {bytes : List ℕ} {count : ℕ} (begun left : V) → Is bytes → IsBegun at.sink.contents at.sink.failures begun
      → IsCutOff (writing at.sink begun left) bytes count → IsGivenUp at left
      → GoesTo at Is workers (Err (Write count))
  refused : {bytes : List ℕ} {count : ℕ} (begun whole : V) → Is bytes → IsBegun at.sink.contents at.sink.failures begun
      → IsWritten (writing at.sink begun whole) bytes → IsRefused at whole
      → GoesTo at Is workers (Err (Write count))
  unmade : {fault : Fault} → MayNotTell workers fault → IsLeft at → GoesTo at Is workers (Err fault)

-- only if it is asked for
abbrev pub GoesIfAsked : {Q V : Type 0} → Place Q V → ReportOptions → (Is : ReportFormat → List ℕ → Type 0)
    → (workers : ℕ) → (asked : Option (List ℕ)) → (reported : Result (Unit {0}) Fault) → Type 0
GoesIfAsked at options Is workers None reported = IsLeft at × (reported ≡ Ok tt)
GoesIfAsked at options Is workers (Some path) reported = GoesTo at (Is options.format) workers reported

abbrev pub path_asked : ReportOptions → Option (List ℕ)
path_asked options = option_map string_bytes options.path

-- what becomes of the report of a run whose index has to keep limits
abbrev pub Reports : {Q V : Type 0} → Place Q V → ReportOptions → Limits → (allows : Seen → Choice → Type 0)
    → Settings → (workers : ℕ) → List TreeFile → (unread : List PathUnread) → (ran : Result (List Omission) Fault)
    → (reported : Result (Unit {0}) Fault) → Type 0
Reports at options limits allows settings workers tree unread ran reported =
    (broken : Option LimitFault) × IsBrokenBy limits tree unread ran broken
    × GoesIfAsked at options (λ format. IsReport allows settings tree unread format ran (due_status ran broken))
    workers (path_asked options) reported
