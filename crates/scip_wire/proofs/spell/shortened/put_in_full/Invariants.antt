use Rattle.std.proofs.Common.{◌≤◌, length, drop}
use Rattle.scip_wire.specs.Outputs.{IsPut}
use Rattle.scip_wire.specs.Shortened.{in_full, distance_sum}
use Rattle.scip_wire.proofs.spell.shortened.put_in_full.Given as goal

-- where the bytes of the distances that are left are put behind those that were, all are
abbrev pub invariant-distances : goal.invariant-distances
invariant-distances g l = record {
  fits : distance_sum (drop l.distance-index l.distances) ≤ length l.left;
  puts : (sink : g.row.W.Denot) (out : g.row.O.Denot)
      → IsPut g.O.Output.holds l.sink l.out sink out (in_full l.prefix l.left (drop l.distance-index l.distances))
      → IsPut g.O.Output.holds l.initial.sink l.initial.out sink out (in_full l.prefix l.rest l.distances);
}
