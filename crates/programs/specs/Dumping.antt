-- How the program `dump` ends.
-- `messages` is the stream of messages. `closed` says whether the last write failed because its reader has closed the
-- pipe.
use Rattle.std.specs.Prelude.{◌≡◌, ℕ, ◌&&◌, Bool, true, false, List, Option, Some, Result, Ok, Err}
use Rattle.streams.specs.Readers.{Reader, known_before}
use Rattle.streams.specs.Writers.{Writer}
use Rattle.proto_parse.specs.dialect.Dialect.{Dialect}
use Rattle.source_tree.specs.Reading.{kept_bytes}
use Rattle.source_tree.specs.Files.{TreeFile}
use Rattle.scip_build.specs.AsRead.{AreReadIn}
use Rattle.protoscip.specs.Dump.{dump_tree}
use Rattle.protoscip.specs.declared.fault.Fault.{Fault}
use Rattle.protoscip.specs.declared.fault.Fault.TheVariants.{Memory, Read, Write}
use Rattle.protoscip.specs.Explanations.{IsFaultText}
use Rattle.protoscip.specs.FaultTexts.{status_of}
use Rattle.programs.specs.Messages.{IsSilent, TellsOne}
use Rattle.programs.specs.Printing.{EndsCut}

-- a write failed
abbrev pub is_write : Fault → Bool
is_write (Write count) = true
is_write fault = false

-- as a run over a tree ends, but that nothing is said of a write to a closed pipe
abbrev pub EndsListing : {M : Type 0} → (explain : Option Dialect) → (closed : Bool) → List TreeFile
    → Result (Unit {0}) Fault → Writer M → (status : ℕ) → Type 0
EndsListing explain closed tree (Ok done) messages status = IsSilent messages status
EndsListing explain closed tree (Err fault) messages status =
    EndsCut (is_write fault && closed) (TellsOne (IsFaultText explain tree fault) (status_of fault) messages status)
    messages status

-- the tree in which a fault has its places: that of what is kept of the source, as it is read; any tree where no place
-- is named: nothing stops the dump, the source isn't read, or memory runs out
abbrev pub IsTreeOfDump : Dialect → (kept : List ℕ) → Result (Unit {0}) Fault → List TreeFile → Type 0
IsTreeOfDump dialect kept (Ok done) tree = Unit {0}
IsTreeOfDump dialect kept (Err Read) tree = Unit {0}
IsTreeOfDump dialect kept (Err Memory) tree = Unit {0}
IsTreeOfDump dialect kept (Err fault) tree = AreReadIn dialect (dump_tree kept) tree

-- a dump ends so in the tree of what is kept of the source
abbrev pub EndsSource : {M : Type 0} → Dialect → (explain : Option Dialect) → (closed : Bool) → (kept : List ℕ)
    → Result (Unit {0}) Fault → Writer M → (status : ℕ) → Type 0
EndsSource dialect explain closed kept done messages status =
    (tree : List TreeFile) × IsTreeOfDump dialect kept done tree
    × EndsListing explain closed tree done messages status

-- what is kept of the source is told by the bytes that the reader tells that it has left; if it tells none, it is of
-- some bytes
pub record EndsDump {R M : Type 0} (dialect : Dialect) (explain : Option Dialect) (closed : Bool) (source : Reader R)
    (done : Result (Unit {0}) Fault) (messages : Writer M) (status : ℕ) : Type 0 where
  pub some : (kept : List ℕ) × EndsSource dialect explain closed kept done messages status
  pub told : (bytes : List ℕ) → known_before source ≡ Some bytes
      → EndsSource dialect explain closed (kept_bytes bytes) done messages status
