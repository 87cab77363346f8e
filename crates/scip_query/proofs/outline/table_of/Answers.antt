use Rattle.std.proofs.Common.{rules, ◌≡◌, List, ℕ}
use Rattle.std.specs.Borrow.{Bor}
use Rattle.std.specs.Ordering.{is_lt}
use Rattle.std.proofs.lemmas.Cmp.{nat_list_cmp_total}
use Rattle.std.proofs.lemmas.Fn.{always_returns_same}
use Rattle.std.proofs.lemmas.List.Sorted.{ranks_by}
use Rattle.scip_query.specs.CommandViews.{text_of}
use Rattle.scip_query.specs.Tables.Outlines.{text_cmp}
use Rattle.scip_query.proofs.outline.table_of.Goals as goal

pub returns : goal.returns
returns c =
    let lt = λ (a b : Bor (List ℕ)). is_lt (text_cmp a b) in
    let rank = ranks_by nat_list_cmp_total text_of in
    record {
      all = _;
      are = c.in_ok-symbols.ensures;
      sorted = record {
        permutation = c.in_ok-sort_by.ensures.permutation;
        sorted = c.in_ok-sort_by.ensures.sorted lt rank
            (always_returns_same _ (λ a r. is_lt r ≡ lt a.0.now a.1.0.now) _ (λ a r f' k. search rules));
        stable = c.in_ok-sort_by.ensures.stable lt rank
            (always_returns_same _ (λ a r. is_lt r ≡ lt a.0.now a.1.0.now) _ (λ a r f' k. search rules));
      };
    }
