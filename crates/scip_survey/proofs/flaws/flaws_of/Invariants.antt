use Rattle.std.proofs.Common.{◌≡◌, ◌++◌, map}
use Rattle.std.specs.List.{flat_map}
use Rattle.scip_query.specs.Tables.Searches.{numbered_from}
use Rattle.scip_survey.specs.Flaws.{document_flaws, flaws_of}
use Rattle.scip_survey.specs.Views.{flawed_view}
use Rattle.scip_survey.proofs.flaws.flaws_of.Given as goal

-- those of the documents so far, and those of the others
abbrev pub invariant-loop-number : goal.invariant-loop-number
invariant-loop-number l =
    map flawed_view l.flaws.items ++ flat_map (document_flaws l.queries) (numbered_from l.number l.queries.documents)
    ≡ flaws_of l.queries
