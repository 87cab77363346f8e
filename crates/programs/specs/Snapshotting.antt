-- What the program `snapshot` does.
-- `gives` is what reading a file may give, `blames` what may be said of why it can't be read, `cause` why the last
-- write failed, and `messages` the stream of messages.
use Rattle.std.specs.Prelude.{◌≡◌, ◌&&◌, ℕ, Bool, true, false, List, Option, None, Some, Result, Ok, Err, map}
use Rattle.std.specs.Prelude.{string_bytes}
use Rattle.std.specs.Option.{option_map}
use Rattle.streams.specs.Writers.{Writer, writing}
use Rattle.source_files.specs.Makers.{Maker}
use Rattle.scip_records.specs.declared.records.Index.{Index}
use Rattle.scip_site.specs.Showing.{ArePrinted, AreCutOff, AreFiled, AreFiledButOne, Shows}
use Rattle.scip_site.specs.declared.show_fault.ShowFault.{ShowFault}
use Rattle.scip_site.specs.declared.show_fault.ShowFault.TheVariants.{Write}
use Rattle.source_files.specs.declared.cause.Cause.{Cause}
use Rattle.command_line.specs.declared.options.SnapshotOptions.{SnapshotOptions}
use Rattle.programs.specs.declared.files_fault.FilesFault.{FilesFault}
use Rattle.programs.specs.declared.files_fault.ToldBy.TheVariants.{Other}
use Rattle.programs.specs.FilesFaults.{IsTold as IsFilesTold, status_of as files_status}
use Rattle.programs.specs.IndexFiles.{IsIndexOf}
use Rattle.programs.specs.Messages.{IsSilent, Tells, TellsOne}
use Rattle.programs.specs.Printing.{EndsCut, is_closed}
use Rattle.programs.specs.ShowFaults.{told, status_of}

-- nothing more is said after a success; after a fault its line is, explained if that is asked for, with its status
abbrev pub EndsShown : {M : Type 0} → (explain : Bool) → Result (Unit {0}) ShowFault → Writer M → (status : ℕ) → Type 0
EndsShown explain (Ok done) messages status = IsSilent messages status
EndsShown explain (Err fault) messages status = Tells (told explain fault) (status_of fault) messages status

-- a write failed
abbrev pub is_write : Result (Unit {0}) ShowFault → Bool
is_write (Err Write) = true
is_write done = false

-- so, but that nothing is said of a write to a closed pipe, where documents are printed
abbrev pub EndsTo : {M : Type 0} → (explain : Bool) → (to : Option (List ℕ)) → (closed : Bool)
    → Result (Unit {0}) ShowFault → Writer M → (status : ℕ) → Type 0
EndsTo explain None closed done messages status =
    EndsCut (is_write done && closed) (EndsShown explain done messages status) messages status
EndsTo explain (Some folder) closed done messages status = EndsShown explain done messages status

-- documents are printed, and no file is made; or they go to files, and nothing is printed
abbrev pub ShowsTo : {W O M : Type 0} → (gives : List ℕ → Option (List ℕ) → Type 0) → (root : List ℕ)
    → (to : Option (List ℕ)) → Index → Writer W → Maker O → Writer M → Result (Unit {0}) ShowFault → Type 0
ShowsTo gives root None index out files messages done =
    (files.after ≡ files.before) × Shows gives root index (ArePrinted out) (AreCutOff out) messages done
ShowsTo gives root (Some folder) index out files messages done =
    (out.after ≡ out.before)
    × Shows gives root index (AreFiled files folder) (AreFiledButOne files folder) messages done

-- so, and then it ends
pub record ShowsAndEnds {W O M : Type 0} (gives : List ℕ → Option (List ℕ) → Type 0) (cause : W → Option Cause)
    (options : SnapshotOptions) (index : Index) (out : Writer W) (files : Maker O) (messages : Writer M) (status : ℕ)
    : Type 0 where
  pub now : M
  pub done : Result (Unit {0}) ShowFault
  pub shows : ShowsTo gives (string_bytes options.root) (option_map string_bytes options.to) index out files
      (writing messages.sink messages.before now) done
  pub ends : EndsTo options.explain (option_map string_bytes options.to) (is_closed (cause out.after)) done
      (writing messages.sink now messages.after) status

-- the files hold no index, and nothing is printed or made; or they hold one, and its documents are shown
pub data RunsSnapshot {W O M : Type 0} (gives blames : List ℕ → Option (List ℕ) → Type 0) (cause : W → Option Cause)
    (options : SnapshotOptions) (out : Writer W) (files : Maker O) (messages : Writer M) (status : ℕ)
    : Type 0 where
  unread : (fault : FilesFault) → IsIndexOf gives (map string_bytes options.indexes.items) (Err fault)
      → out.after ≡ out.before → files.after ≡ files.before
      → TellsOne (IsFilesTold blames Other options.explain (map string_bytes options.indexes.items) fault)
      (files_status fault) messages status
      → RunsSnapshot gives blames cause options out files messages status
  read : (index : Index) → IsIndexOf gives (map string_bytes options.indexes.items) (Ok index)
      → ShowsAndEnds gives cause options index out files messages status
      → RunsSnapshot gives blames cause options out files messages status
