use Rattle.std.proofs.Common.{◌≡◌}
use Rattle.scip_query.specs.Tables.{numbers}
use Rattle.scip_pages.proofs.code_table.numbers.Given as goal

-- the numbers so far
abbrev pub invariant-loop-number : goal.invariant-loop-number
invariant-loop-number l = l.listed.items ≡ numbers l.number
