-- Why several indexes aren't joined: what is said about it, and the exit status. (Texts and statuses are this project's
-- own.)
use Rattle.std.specs.Prelude.{◌≡◌, Bool, ℕ, List, Option, codes}
use Rattle.scip_wire.specs.declared.write_fault.WriteFault.{WriteFault}
use Rattle.scip_wire.specs.declared.write_fault.WriteFault.TheVariants as writing
use Rattle.protoscip.specs.Lines.{plain_line}
use Rattle.protoscip.specs.Statuses.{stream_status}
use Rattle.programs.specs.FaultTexts.{explained}
use Rattle.programs.specs.FilesFaults.{IsTold as IsFilesTold, status_of as status_of_files}
use Rattle.programs.specs.declared.files_fault.FilesFault.TheVariants.{TooLarge}
use Rattle.programs.specs.declared.files_fault.ToldBy.TheVariants.{Join}
use Rattle.programs.specs.declared.join_stop.JoinStop.{JoinStop}
use Rattle.programs.specs.declared.join_stop.JoinStop.TheVariants.{NoJoin, Write}

-- the line of a write that fails, explained if that is asked for
abbrev pub write_told : (explain : Bool) → List ℕ
write_told explain =
    explained explain (plain_line (codes "Write"))
    (codes "\nthe output can't be made, or its disk is full, or nobody reads it")

-- what is told of the files with these paths; `blames` is what may be said of why a path can't be read
abbrev pub IsTold : (blames : List ℕ → Option (List ℕ) → Type 0) → (explain : Bool) → (paths : List (List ℕ))
    → JoinStop → (text : List ℕ) → Type 0
IsTold blames explain paths (NoJoin fault) text = IsFilesTold blames Join explain paths fault text
IsTold blames explain paths Write text = text ≡ write_told explain

-- that of the files, and 3 if writing fails
abbrev pub status_of : JoinStop → ℕ
status_of (NoJoin fault) = status_of_files fault
status_of Write = stream_status

abbrev pub stop_of_writing : WriteFault → JoinStop
stop_of_writing writing.TooLarge = NoJoin TooLarge
stop_of_writing (writing.Write count) = Write
