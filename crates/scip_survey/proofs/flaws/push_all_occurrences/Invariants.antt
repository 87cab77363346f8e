use Rattle.std.proofs.Common.{◌≡◌, ◌++◌, drop, map}
use Rattle.std.specs.List.{enumerate_from, flat_map}
use Rattle.scip_survey.specs.Flaws.{occurrence_flaws}
use Rattle.scip_survey.specs.Views.{document_view, flawed_view}
use Rattle.scip_survey.proofs.flaws.push_all_occurrences.Given as goal

-- those so far, and those of the other occurrences
abbrev pub invariant-loop-number : goal.invariant-loop-number
invariant-loop-number l =
    map flawed_view l.flaws.items
    ++ flat_map (occurrence_flaws l.looked.queries.now (document_view l.looked))
    (enumerate_from l.number (drop l.number l.looked.document.now.occurrences))
    ≡ map flawed_view l.fn.flaws.items
    ++ flat_map (occurrence_flaws l.looked.queries.now (document_view l.looked))
    (enumerate_from 0 l.looked.document.now.occurrences)
