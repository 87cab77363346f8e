use Rattle.std.proofs.Common.{◌≡◌, ◌++◌}
use Rattle.scip_site.specs.Tree.{closes}
use Rattle.scip_site.proofs.tree.push_closes.Given as goal

-- the ends so far
abbrev pub invariant-loop : goal.invariant-loop
invariant-loop l = l.page.items ≡ l.fn.page.items ++ closes l.counter
