use Rattle.std.proofs.Common.{◌≡◌, ◌++◌, map}
use Rattle.std.specs.List.{flat_map}
use Rattle.scip_query.specs.Finding.{found_in, all_found}
use Rattle.scip_query.specs.MoreViews.{found_view}
use Rattle.scip_query.specs.Tables.Searches.{numbered_from}
use Rattle.scip_query.proofs.queries.Queries.all_found.Given as goal

-- what is found in the documents so far
abbrev pub invariant-loop-number : goal.invariant-loop-number
invariant-loop-number l =
    map found_view l.found.items ++ flat_map (found_in l.self l.text) (numbered_from l.number l.self.documents)
    ≡ all_found l.self l.text
