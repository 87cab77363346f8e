-- What the program `index` does.
-- `lists`, `gives` and `finds` are what the system of files gives, and `blames` what may be said of why a path can't be
-- read; `at` is the place of the index, and `report` that of its report. `none_found` says which line, if any, is
-- said of a tree whose index lacks nothing.
use Rattle.std.specs.Prelude.{◌≡◌, ℕ, Bool, List, Option, None, Some, Result, string_bytes}
use Rattle.streams.specs.Writers.{Writer, writing}
use Rattle.proto_decl.specs.Values.{Seen}
use Rattle.index_hooks.specs.declared.choice.Choice.{Choice}
use Rattle.source_tree.specs.Files.{TreeFile}
use Rattle.source_files.specs.Listings.{Listing}
use Rattle.scip_model.specs.Packages.{Packages}
use Rattle.scip_build.specs.declared.settings.Settings.{Settings}
use Rattle.protoscip.specs.Explanations.{explain_in}
use Rattle.protoscip.specs.Indexes.{Indexes}
use Rattle.protoscip.specs.declared.fault.Fault.{Fault}
use Rattle.protoscip.specs.declared.recorded.Recorded.{Recorded}
use Rattle.protoscip.specs.Unread.{PathUnread}
use Rattle.command_line.specs.declared.options.IndexOptions.{IndexOptions}
use Rattle.command_line.specs.declared.options.IndexRequest.{IndexRequest}
use Rattle.programs.specs.declared.limits.LimitFault.{LimitFault}
use Rattle.programs.specs.declared.start_fault.StartFault.{StartFault}
use Rattle.programs.specs.Folders.{AreFolders, NamePackages}
use Rattle.programs.specs.Messages.{SaysOfSuccess, Tells, TellsOne}
use Rattle.programs.specs.Limits.{Breaks, EndsShort}
use Rattle.programs.specs.Placing.{AreApart, Place, Fills, Forgoes, IsLeft, IsPut, MayNotBegin}
use Rattle.programs.specs.Reporting.{Reports, told_by}
use Rattle.programs.specs.Settings.{allowed_by, settings_in}
use Rattle.programs.specs.StartExplanations.{IsTold as IsStartTold, told as start_told}
use Rattle.programs.specs.StartFaults.{status_of as start_status}
use Rattle.programs.specs.StartReports.{EndsUnstarted, IsOut}
use Rattle.programs.specs.Starting.{MayNotStart}
use Rattle.programs.specs.TreeRuns.{AreNavigable, Ends}

-- Over a tree, without what couldn't be read: it is said why nothing is written, and the places are as they were; or
-- none of the files that were read is said to be the one at a place, the tree is indexed into a part of `at`, its
-- report goes where it is asked for, and the run ends; or its index breaks a limit, and the part is given up.
pub data IndexesInto {P W Q V M : Type 0} (none_found : List TreeFile → Option (List ℕ) → Type 0) (asked : IndexRequest)
    (allows : Seen → Choice → Type 0) (settings : Settings) (workers : ℕ) (tree : List TreeFile)
    (unread : List PathUnread) (at : Place P W) (report : Place Q V) (messages : Writer M) (status : ℕ) : Type 0 where
  not_begun : (fault : StartFault) → MayNotBegin at report asked tree fault → IsLeft at → IsLeft report
      → Tells (start_told asked.options.explain fault) (start_status fault) messages status
      → IndexesInto none_found asked allows settings workers tree unread at report messages status
  into_part : (done : Result Recorded Fault) → AreApart at report asked tree
      → Fills at (λ recorded. Breaks asked.limits tree unread recorded.told None)
      (λ begun written ran. Indexes allows settings tree workers (writing at.sink begun written) ran)
      (λ ran. Reports report asked.options.report asked.limits allows settings workers tree unread (told_by ran)) done
      → Ends SaysOfSuccess (none_found tree) (explain_in asked.options.explain settings.dialect)
      asked.options.is_real tree unread (λ recorded. recorded.told) done messages status
      → IndexesInto none_found asked allows settings workers tree unread at report messages status
  too_poor : (recorded : Recorded) (fault : LimitFault) → AreApart at report asked tree
      → Forgoes at (λ begun written ran. Indexes allows settings tree workers (writing at.sink begun written) ran)
      (λ ran. Reports report asked.options.report asked.limits allows settings workers tree unread (told_by ran))
      recorded
      → Breaks asked.limits tree unread recorded.told (Some fault)
      → EndsShort (none_found tree) asked.options.explain (explain_in asked.options.explain settings.dialect)
      asked.options.is_real tree unread recorded.told fault messages status
      → IndexesInto none_found asked allows settings workers tree unread at report messages status

-- It doesn't start, the place of the index is as it was, and the report, if one is asked for, tells why; or there is a
-- tree of the files, and this is indexed, as the options say. `suspects` says whether a source may be at the place of
-- the report.
pub data Indexed {P W Q V M : Type 0} (lists : List ℕ → List ℕ → Option Listing → Type 0)
    (gives : List ℕ → Option (List ℕ) → Type 0) (finds : List ℕ → List ℕ → Bool → Type 0)
    (blames : List ℕ → Option (List ℕ) → Type 0) (none_found : List TreeFile → Option (List ℕ) → Type 0)
    (suspects : Bool → Type 0) (asked : IndexRequest) (at : Place P W) (report : Place Q V) (messages : Writer M)
    (status : ℕ) : Type 0 where
  not_started : (fault said : StartFault) (is_out : Bool) → MayNotStart lists gives finds asked.options fault
      → IsLeft at
      → IsOut (at.same at.before) (string_bytes asked.out) asked.options.report is_out
      → EndsUnstarted report suspects is_out asked.options.report fault said
      → TellsOne (IsStartTold blames asked.options.explain said) (start_status said) messages status
      → Indexed lists gives finds blames none_found suspects asked at report messages status
  over_tree : (tree : List TreeFile) (unread : List PathUnread) (ids : Packages) → NamePackages asked.options
      → AreFolders lists gives finds asked.options tree unread ids
      → IndexesInto none_found asked (allowed_by asked.options) (settings_in asked.options ids) asked.options.workers
      tree unread at report messages status
      → Indexed lists gives finds blames none_found suspects asked at report messages status

-- if the exit status is 0, the bytes of an index that navigates the tree of the files are put at the place
abbrev pub WritesNavigable : {P W : Type 0} → (lists : List ℕ → List ℕ → Option Listing → Type 0)
    → (gives : List ℕ → Option (List ℕ) → Type 0) (finds : List ℕ → List ℕ → Bool → Type 0)
    → IndexOptions → Place P W → (status : ℕ) → Type 0
WritesNavigable lists gives finds options at status =
    status ≡ 0 → AreNavigable lists gives finds options (λ bytes _. IsPut at bytes)
