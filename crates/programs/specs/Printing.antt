-- Printing a text, and how a program ends whose output is cut off.
use Rattle.std.specs.Prelude.{◌≡◌, ℕ, ◌⊎◌, Bool, true, false, List, Option, Some, codes}
use Rattle.streams.specs.Writers.{IsCutOff, IsWritten, Writer}
use Rattle.source_files.specs.declared.cause.Cause.{Cause}
use Rattle.source_files.specs.declared.cause.Cause.TheVariants.{ClosedPipe}
use Rattle.programs.specs.Messages.{IsSilent, Tells}
use Rattle.protoscip.specs.Lines.{plain_line}
use Rattle.programs.specs.Statuses.{command_line_status}
use Rattle.protoscip.specs.Statuses.{stream_status}

-- whether a write failed because the pipe that it goes to is closed by its reader, by why it failed
abbrev pub is_closed : Option Cause → Bool
is_closed (Some ClosedPipe) = true
is_closed cause = false

-- how a program ends whose output is cut off: if its reader has closed the pipe, it wants no more, and nothing is said;
-- else what is `due` is
abbrev pub EndsCut : {M : Type 0} → (closed : Bool) → (due : Type 0) → Writer M → (status : ℕ) → Type 0
EndsCut true due messages status = IsSilent messages status
EndsCut false due messages status = due

-- all of it is written, and nothing is said; or a write fails after a first part of it, and that is said, but of a
-- closed pipe. `cause` tells why the last write failed.
abbrev pub Prints : {W M : Type 0} → (cause : W → Option Cause) → (text : List ℕ) → Writer W → Writer M
    → (status : ℕ) → Type 0
Prints cause text out messages status =
    (IsWritten out text × IsSilent messages status)
    ⊎ ((count : ℕ) × IsCutOff out text count
    × EndsCut (is_closed (cause out.after)) (Tells (plain_line (codes "Write")) stream_status messages status) messages
    status)

-- a text says why a command line is refused: all of it is written, or a write fails after a first part of it
abbrev pub Refuses : {M : Type 0} → (text : List ℕ) → Writer M → (status : ℕ) → Type 0
Refuses text messages status =
    (status ≡ command_line_status)
    × (IsWritten messages text
    ⊎ ((count : ℕ) × IsCutOff messages text count))
