use Rattle.std.proofs.Common.{◌≡◌, ℕ, ◌++◌, map}
use Rattle.scip_query.specs.Tables.{numbers}
use Rattle.scip_query.proofs.tables.push_entry_places.Given as goal

-- the places of the entries so far
abbrev pub invariant-loop-entry : goal.invariant-loop-entry
invariant-loop-entry l =
    l.places.items ≡ l.fn.places.items ++ map (λ (k : ℕ). record { list = l.list; entry = k }) (numbers l.entry)
