use Rattle.std.proofs.Common.{◌≤◌, ◌-◌}
use Rattle.diagnostics.specs.Counting.{IsCounted}
use Rattle.diagnostics.proofs.counter.moved.Given as goal

-- the place is counted, and not past the offset
abbrev pub invariant-loop-spot : goal.invariant-loop-spot
invariant-loop-spot l = record {
  counted : IsCounted l.text l.spot.at l.spot.line l.spot.column;
  behind : l.spot.at ≤ l.at;
}

abbrev pub decreases-loop-spot : goal.decreases-loop-spot
decreases-loop-spot l = l.at - l.spot.at
