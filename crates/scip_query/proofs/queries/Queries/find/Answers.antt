use Rattle.std.proofs.Common.{◌∙◌, ap, map, take}
use Rattle.scip_query.specs.Finding.{found_cmp, max_found}
use Rattle.scip_query.specs.MoreViews.{found_view}
use Rattle.scip_query.specs.Sorting.{sorted_by}
use Rattle.scip_query.proofs.FindingLemmas.{take_viewed}
use Rattle.scip_query.proofs.queries.Queries.find.Goals as goal

pub returns : goal.returns
returns c =
    ap (map found_view) c.truncate.ensures.items
    ∙ take_viewed found_view max_found c.sort_found.new.found.items
    ∙ ap (take max_found) (c.in_ok-sort_found.ensures ∙ ap (sorted_by found_cmp) c.in_ok-found.ensures)
