use Rattle.std.proofs.Common.{rules, ◌≡◌}
use Rattle.std.specs.Ordering.{is_lt}
use Rattle.std.proofs.lemmas.Fn.{always_returns_same}
use Rattle.std.proofs.lemmas.List.Sorted.{ranks_by}
use Rattle.std.proofs.lemmas.Result.{on_ok_weaker}
use Rattle.scip_query.specs.MoreViews.{found_view}
use Rattle.scip_query.specs.Finding.{found_cmp}
use Rattle.scip_query.specs.declared.finding.Found.{Found}
use Rattle.scip_query.proofs.FindingLemmas.{found_total}
use Rattle.scip_query.proofs.SortingLemmas.{sorted_view}
use Rattle.scip_query.proofs.finding.sort_found.Goals as goal

pub returns : goal.returns
returns c =
    let lt = λ (a b : Found). is_lt (found_cmp (found_view a) (found_view b)) in
    let rank = ranks_by found_total found_view in
    on_ok_weaker c.sort_by.result
    (λ sorted. sorted_view found_cmp found_total found_view c.args.found.now.items c.sort_by.new.self.items
    (sorted lt rank (always_returns_same _ (λ a r. is_lt r ≡ lt a.0.now a.1.0.now) _ (λ a r f' k. search rules)))
    (c.sort_by.ensures.stable lt rank
    (always_returns_same _ (λ a r. is_lt r ≡ lt a.0.now a.1.0.now) _ (λ a r f' k. search rules))))
    c.sort_by.ensures.sorted
