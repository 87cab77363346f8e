-- What the program `join` makes of the indexes that files hold.
use Rattle.std.proofs.Common.{◌≡◌, ◌<◌, ℕ, List, length, Option, Result, Ok, Err, refl}
use Rattle.std.specs.Prelude.{OnOk, IfErr}
use Rattle.streams.specs.Writers.{writing}
use Rattle.source_files.specs.Places.{IsBegun}
use Rattle.scip_records.specs.declared.records.Index.{Index}
use Rattle.scip_wire.specs.Spelling.{spelling_of, max_index_len}
use Rattle.scip_wire.specs.Writing.{Leaves}
use Rattle.scip_wire.specs.declared.write_fault.WriteFault.{WriteFault}
use Rattle.scip_wire.specs.declared.write_fault.WriteFault.TheVariants as writes
use Rattle.scip_join.specs.Pieces.{ArePiecesOf}
use Rattle.scip_join.specs.declared.choices.JoinChoices.{JoinChoices}
use Rattle.scip_join.specs.declared.joined.JoinedIndex.{JoinedIndex}
use Rattle.programs.specs.IndexFiles.{HasPieces, IsJoinOf}
use Rattle.programs.specs.Joining.{MayNotPut, PutsJoin, PutsNone}
use Rattle.programs.specs.Joining.PutsNone.{unjoined, unwritten}
use Rattle.programs.specs.JoinStops.{stop_of_writing}
use Rattle.programs.specs.Placing.{Place, IsGivenUp, IsPut}
use Rattle.programs.specs.Placing.IsUnput.{cut_off}
use Rattle.programs.specs.declared.join_stop.JoinStop.{JoinStop}
use Rattle.programs.specs.declared.join_stop.JoinStop.TheVariants as stop
use Rattle.programs.proofs.IndexFileLemmas.{unspelled}

module _ (gives : List ℕ → Option (List ℕ) → Type 0) (choices : JoinChoices) (paths : List (List ℕ)) where
  -- the bytes of the join are put
  pub puts : {P W : Type 0} (at : Place P W) (whole : JoinedIndex) (done : Result (Unit {0}) JoinStop)
      → HasPieces gives choices paths whole
      → ((index : Index) → ArePiecesOf whole index → OnOk done (IsPut at (spelling_of index)))
      → OnOk done (PutsJoin gives choices paths at)
  puts at whole (Ok done) has put = record { joined = has.joined; is = has.is; put = put has.joined has.pieces }
  puts at whole (Err fault) has put = tt

  refused : {P W : Type 0} (at : Place P W) (joined : Index) (fault : JoinStop) → IsJoinOf gives choices paths joined
      → MayNotPut at joined fault → PutsNone gives choices paths at fault
  refused at joined (stop.NoJoin fault) is may = unjoined (unspelled gives choices paths joined fault is may)
  refused at joined stop.Write is unput = unwritten joined is unput

  -- or they aren't
  pub puts_not : {P W : Type 0} (at : Place P W) (whole : JoinedIndex) (done : Result (Unit {0}) JoinStop)
      → HasPieces gives choices paths whole
      → ((index : Index) → ArePiecesOf whole index → IfErr done (MayNotPut at index))
      → IfErr done (PutsNone gives choices paths at)
  puts_not at whole (Ok done) has stops = tt
  puts_not at whole (Err fault) has stops = refused at has.joined fault has.is (stops has.joined has.pieces)

-- why an index isn't put, by what writing it to a part tells
pub unput_by : {P W : Type 0} (at : Place P W) (index : Index) (begun left : W) (fault : WriteFault)
    → IsBegun at.sink.contents at.sink.failures begun
    → Leaves (writing at.sink begun left) (spelling_of index) fault
    → (fault ≡ writes.TooLarge → max_index_len < length (spelling_of index)) → IsGivenUp at left
    → MayNotPut at index (stop_of_writing fault)
unput_by at index begun left writes.TooLarge nothing leaves large given = large refl
unput_by at index begun left (writes.Write count) nothing leaves large given = cut_off begun left nothing leaves given
