-- the greatest such root is one of those that are left
use Rattle.std.proofs.Common.{◌≡◌, ◌≤◌, length}
use Rattle.scip_query.specs.Nearest.{greatest_below, is_root, nearness}
use Rattle.scip_query.proofs.nearness.nearness.Given as goal

abbrev pub invariant-loop-count : goal.invariant-loop-count
invariant-loop-count l = record {
  left : greatest_below (is_root l.asked l.path l.symbol) l.count ≡ nearness l.asked l.path l.symbol;
  within : l.count ≤ length l.path;
}

abbrev pub decreases-loop-count : goal.decreases-loop-count
decreases-loop-count l = l.count
