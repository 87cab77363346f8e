use Rattle.std.proofs.Common.{◌≡◌, rules}
use Rattle.std.specs.Ordering.{is_lt}
use Rattle.std.proofs.lemmas.Cmp.{nat_list_cmp_total}
use Rattle.std.proofs.lemmas.Fn.{always_returns_same}
use Rattle.std.proofs.lemmas.List.Sorted.{ranks_by}
use Rattle.scip_records.specs.declared.records.SymbolInformation.{SymbolInformation}
use Rattle.scip_join.specs.Joined.{entry_cmp}
use Rattle.scip_join.proofs.externals.sort_by_symbol.Goals as goal

pub returns : goal.returns
returns c =
    let lt = λ (a b : SymbolInformation). is_lt (entry_cmp a b) in
    let rank = ranks_by nat_list_cmp_total (λ (e : SymbolInformation). e.symbol) in record {
      permutation = c.in_ok-sort_by.ensures.permutation;
      sorted = c.in_ok-sort_by.ensures.sorted lt rank
          (always_returns_same _ (λ a r. is_lt r ≡ lt a.0.now a.1.0.now) _ (λ a r f' k. search rules));
      stable = c.in_ok-sort_by.ensures.stable lt rank
          (always_returns_same _ (λ a r. is_lt r ≡ lt a.0.now a.1.0.now) _ (λ a r f' k. search rules));
    }
