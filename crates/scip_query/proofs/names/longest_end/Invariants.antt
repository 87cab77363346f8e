use Rattle.std.proofs.Common.{◌≡◌, ◌-◌, drop}
use Rattle.std.specs.Prelude.{nat_eq}
use Rattle.std.specs.List.{count_by}
use Rattle.scip_query.specs.Names.{longest_end}
use Rattle.scip_query.proofs.names.longest_end.Given as goal

-- the end is one of what is left, in which the byte occurs so many times too often
abbrev pub invariant-loop-at : goal.invariant-loop-at
invariant-loop-at l = record {
  ending : longest_end l.byte l.most (drop l.at l.text) ≡ longest_end l.byte l.most l.text;
  excess : l.excess ≡ count_by (nat_eq l.byte) (drop l.at l.text) - l.most;
}
