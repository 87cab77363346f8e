use Rattle.std.proofs.Common.{◌≡◌, ℕ, List, map}
use Rattle.scip_query.specs.Tables.{numbers}
use Rattle.scip_site.specs.Repeats.{is_before, is_repeated, is_seen}
use Rattle.scip_site.proofs.repeats.are_repeated.Given as goal

-- the paths so far are seen
abbrev pub invariant-loop-number : goal.invariant-loop-number
invariant-loop-number l = record {
  seen : (path : List ℕ) → is_seen l.seen path ≡ is_before l.documents path l.number;
  repeats : l.repeats.items ≡ map (is_repeated l.documents) (numbers l.number);
}
