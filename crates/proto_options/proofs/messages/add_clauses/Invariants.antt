use Rattle.std.proofs.Common.{◌≡◌, ◌+◌, ◌≤◌, ◌++◌, map, length}
use Rattle.proto_options.specs.Messages.{fact_of, clauses_in}
use Rattle.proto_options.proofs.messages.add_clauses.Given as goal

-- what is found so far, and what is left in the braces, are all
abbrev pub invariant-tokens : goal.invariant-tokens
invariant-tokens l = record {
  same : l.facts.items ++ map (fact_of l.name) (clauses_in l.open_braces l.cursor.left)
      ≡ l.fn.facts.items ++ map (fact_of l.name) (clauses_in 0 l.fn.body.left);
  bounded : l.open_braces + length l.cursor.left ≤ l.most;
}

abbrev pub decreases-tokens : goal.decreases-tokens
decreases-tokens l = length l.cursor.left
