-- What the program `join` does.
-- `gives` is what reading a file may give, `blames` what may be said of why it can't be read, `at` the place of the
-- join, and `messages` the stream of messages.
use Rattle.std.specs.Prelude.{ℕ, List, Option, map, string_bytes}
use Rattle.std.specs.Option.{option_map}
use Rattle.streams.specs.Writers.{Writer}
use Rattle.scip_records.specs.declared.records.Index.{Index}
use Rattle.scip_wire.specs.Spelling.{spelling_of}
use Rattle.scip_join.specs.declared.choices.JoinChoices.{JoinChoices}
use Rattle.command_line.specs.declared.options.JoinOptions.{JoinOptions}
use Rattle.programs.specs.IndexFiles.{HasNoJoin, IsJoinOf, MayNotSpell}
use Rattle.programs.specs.JoinStops.{IsTold, status_of}
use Rattle.programs.specs.Messages.{IsSilent, TellsOne}
use Rattle.programs.specs.Placing.{Place, IsLeft, IsPut, IsUnput}
use Rattle.programs.specs.declared.files_fault.FilesFault.{FilesFault}
use Rattle.programs.specs.declared.join_stop.JoinStop.{JoinStop}
use Rattle.programs.specs.declared.join_stop.JoinStop.TheVariants.{NoJoin, Write}

-- ---- what is asked for

abbrev pub choices_in : JoinOptions → JoinChoices
choices_in options = record {
  project_root = option_map string_bytes options.project_root;
  replace = options.replace;
}

abbrev pub paths_in : JoinOptions → List (List ℕ)
paths_in options = map string_bytes options.indexes.items

-- ---- the steps

-- why an index isn't put at its place: it is too large, a write fails, or memory ran out
abbrev pub MayNotPut : {P W : Type 0} → (at : Place P W) → Index → JoinStop → Type 0
MayNotPut at index (NoJoin fault) = MayNotSpell index fault
MayNotPut at index Write = IsUnput at (spelling_of index)

-- the bytes of the join are put at a place
pub record PutsJoin {P W : Type 0} (gives : List ℕ → Option (List ℕ) → Type 0) (choices : JoinChoices)
    (paths : List (List ℕ)) (at : Place P W) : Type 0 where
  pub joined : Index
  pub is : IsJoinOf gives choices paths joined
  pub put : IsPut at (spelling_of joined)

-- why no join is put at a place: there is none, or writing its bytes fails
pub data PutsNone {P W : Type 0} (gives : List ℕ → Option (List ℕ) → Type 0) (choices : JoinChoices)
    (paths : List (List ℕ)) (at : Place P W) : JoinStop → Type 0 where
  unjoined : {fault : FilesFault} → HasNoJoin gives choices paths fault → PutsNone gives choices paths at (NoJoin fault)
  unwritten : (joined : Index) → IsJoinOf gives choices paths joined → IsUnput at (spelling_of joined)
      → PutsNone gives choices paths at Write

-- ---- the program

-- The bytes of the join are put at the place; or it is told why they aren't, and the place is as it was.
pub data RunsJoin {P W M : Type 0} (gives blames : List ℕ → Option (List ℕ) → Type 0) (options : JoinOptions)
    (at : Place P W) (messages : Writer M) (status : ℕ) : Type 0 where
  puts : PutsJoin gives (choices_in options) (paths_in options) at → IsSilent messages status
      → RunsJoin gives blames options at messages status
  stops : (stop : JoinStop) → PutsNone gives (choices_in options) (paths_in options) at stop → IsLeft at
      → TellsOne (IsTold blames options.explain (paths_in options) stop) (status_of stop) messages status
      → RunsJoin gives blames options at messages status
