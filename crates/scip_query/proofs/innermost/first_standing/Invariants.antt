use Rattle.std.proofs.Common.{◌≡◌, drop}
use Rattle.std.specs.List.{find}
use Rattle.scip_query.specs.Tables.Searches.{stands_listed}
use Rattle.scip_query.proofs.innermost.first_standing.Given as goal

-- none of those so far stands there
abbrev pub invariant-loop-number : goal.invariant-loop-number
invariant-loop-number l =
    find (stands_listed l.occurrences l.position) (drop l.number-index l.numbers)
    ≡ find (stands_listed l.occurrences l.position) l.numbers
