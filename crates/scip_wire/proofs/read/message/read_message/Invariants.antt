use Rattle.std.proofs.Common.{◌≡◌, ◌≤◌, length}
use Rattle.scip_wire.specs.Reading.{fold_at, field_at}
use Rattle.scip_wire.specs.Blamed.{message_fault}
use Rattle.scip_wire.proofs.read.message.read_message.Given as goal

-- what is left gives the same as all, and ends where all does
abbrev pub invariant-records : goal.invariant-records
invariant-records g l = record {
  reads : fold_at field_at g.M.Decode.step l.rest l.message ≡ fold_at field_at g.M.Decode.step l.bytes g.M.Decode.none;
  ends : length l.rest ≤ l.end;
  blames : message_fault g.M.Decode.step g.M.Decode.step_fault l.end l.rest l.message
      ≡ message_fault g.M.Decode.step g.M.Decode.step_fault l.end l.bytes g.M.Decode.none;
}

abbrev pub decreases-records : goal.decreases-records
decreases-records g l = length l.rest
