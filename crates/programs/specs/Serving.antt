-- What the program `shell` does.
-- `lists`, `gives` and `finds` are what the system of files gives, and `blames` what may be said of why a path can't be
-- read; `none_found` says which line, if any, is said of a tree whose index lacks nothing; `report` is the place of a
-- report.
use Rattle.std.specs.Prelude.{◌≡◌, ℕ, Bool, List, Option, Result, Ok, false, IfSome}
use Rattle.streams.specs.Readers.{Reader}
use Rattle.streams.specs.Writers.{Writer}
use Rattle.source_tree.specs.Files.{TreeFile}
use Rattle.scip_query.specs.declared.manner.Manner.{Manner}
use Rattle.scip_model.specs.Packages.{Packages}
use Rattle.protoscip.specs.Explanations.{explain_in}
use Rattle.protoscip.specs.Sessions.{AreAnswered, AreUntouched, Serves}
use Rattle.protoscip.specs.declared.fault.Fault.{Fault}
use Rattle.protoscip.specs.declared.recorded.Recorded.{Recorded}
use Rattle.protoscip.specs.Unread.{PathUnread}
use Rattle.command_line.specs.declared.options.IndexOptions.{IndexOptions}
use Rattle.programs.specs.Folders.{AreFolders, NamePackages}
use Rattle.programs.specs.Limits.{no_limits}
use Rattle.programs.specs.Messages.{Tells, TellsOfSuccess, TellsOne}
use Rattle.programs.specs.Placing.{IsLeft, IsRead, MayNotReport, Place}
use Rattle.programs.specs.Reporting.{Reports, told_by}
use Rattle.programs.specs.Settings.{allowed_by, settings_in}
use Rattle.programs.specs.Settled.{settled}
use Rattle.programs.specs.StartExplanations.{IsTold as IsStartTold, told as start_told}
use Rattle.programs.specs.StartFaults.{status_of as start_status}
use Rattle.programs.specs.StartReports.{EndsUnstarted}
use Rattle.programs.specs.Starting.{MayNotStart}
use Rattle.programs.specs.declared.start_fault.StartFault.{StartFault}
use Rattle.programs.specs.TreeRuns.{AreNavigable, Ends}
use Rattle.source_files.specs.Listings.{Listing}

-- neither commands nor answers are touched, nor the place of the report
abbrev pub IsUnserved : {Q V R W : Type 0} → Place Q V → Reader R → Writer W → Type 0
IsUnserved report commands answers =
    AreUntouched commands answers × IsLeft report

-- It doesn't start, no command is read, and the report, if one is asked for, tells why; or the report can't go to its
-- place, and nothing is read or written; or none of the files that were read is said to be the one at that place,
-- commands are answered from the index of the tree of the files, as the options say, and the report goes where it is
-- asked for. `suspects` says whether a source may be at that place.
pub data Served {Q V R W M : Type 0} (manner : Manner) (lists : List ℕ → List ℕ → Option Listing → Type 0)
    (gives : List ℕ → Option (List ℕ) → Type 0) (finds : List ℕ → List ℕ → Bool → Type 0)
    (blames : List ℕ → Option (List ℕ) → Type 0) (none_found : List TreeFile → Option (List ℕ) → Type 0)
    (suspects : Bool → Type 0) (options : IndexOptions) (report : Place Q V) (commands : Reader R) (answers : Writer W)
    (messages : Writer M) (status : ℕ) : Type 0 where
  not_started : (fault said : StartFault) → MayNotStart lists gives finds options fault
      → AreUntouched commands answers
      → EndsUnstarted report suspects false options.report fault said
      → TellsOne (IsStartTold blames options.explain said) (start_status said) messages status
      → Served manner lists gives finds blames none_found suspects options report commands answers messages status
  not_begun : (tree : List TreeFile) (unread : List PathUnread) (ids : Packages) (fault : StartFault)
      → NamePackages options → AreFolders lists gives finds options tree unread ids
      → MayNotReport report options tree fault
      → IsUnserved report commands answers
      → Tells (start_told options.explain fault) (start_status fault) messages status
      → Served manner lists gives finds blames none_found suspects options report commands answers messages status
  over_tree : (tree : List TreeFile) (unread : List PathUnread) (ids : Packages) (ran : Result Recorded Fault)
      (reported : Result (Unit {0}) Fault) → NamePackages options → AreFolders lists gives finds options tree unread ids
      → IfSome options.report.path (λ _. IsRead report options tree false)
      → Serves manner commands answers (allowed_by options) (settings_in options ids) tree options.workers ran
      → Reports report options.report no_limits (allowed_by options) (settings_in options ids) options.workers tree
      unread (told_by ran) reported
      → Ends TellsOfSuccess (none_found tree) (explain_in options.explain (settings_in options ids).dialect)
      options.is_real tree
      unread (λ recorded. recorded.told) (settled ran reported) messages status
      → Served manner lists gives finds blames none_found suspects options report commands answers messages status

-- if the exit status is 0, all commands are answered from an index that navigates the tree of the files
abbrev pub AnswersNavigable : {R W : Type 0} → Manner → (lists : List ℕ → List ℕ → Option Listing → Type 0)
    → (gives : List ℕ → Option (List ℕ) → Type 0) (finds : List ℕ → List ℕ → Bool → Type 0)
    → IndexOptions → Reader R → Writer W → (status : ℕ) → Type 0
AnswersNavigable manner lists gives finds options commands answers status =
    status ≡ 0
    → AreNavigable lists gives finds options
    (λ _ index. AreAnswered manner commands answers index (Ok tt))
