use Rattle.std.proofs.Common.{◌≡◌, ◌≤◌, take}
use Rattle.std.specs.Prelude.{nat_eq}
use Rattle.std.specs.List.{count_by}
use Rattle.scip_query.proofs.names.count_of.Given as goal

-- so many so far
abbrev pub invariant-loop-b : goal.invariant-loop-b
invariant-loop-b l = record {
  few : l.count ≤ l.b-index;
  counted : l.count ≡ count_by (nat_eq l.byte) (take l.b-index l.text);
}
