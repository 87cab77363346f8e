use Rattle.std.proofs.Common.{rules, ◌≡◌, ℕ, subst}
use Rattle.std.specs.Ordering.{is_lt}
use Rattle.std.proofs.lemmas.Fn.{always_returns_same}
use Rattle.scip_query.specs.Tables.{path_cmp, IsTable}
use Rattle.scip_query.proofs.TableLemmas.{paths_rank}
use Rattle.scip_site.proofs.order.by_path.Goals as goal

pub returns : goal.returns
returns c =
    let documents = c.args.documents.now in
    let lt = λ (a b : ℕ). is_lt (path_cmp documents a b) in
    subst (λ all. IsTable (path_cmp documents) all c.sort_by.new.self.items) c.in_ok-order.ensures record {
      permutation = c.in_ok-sort_by.ensures.permutation;
      sorted = c.in_ok-sort_by.ensures.sorted lt (paths_rank documents)
          (always_returns_same _ (λ a r. is_lt r ≡ lt a.0.now a.1.0.now) _ (λ a r f' k. search rules));
      stable = c.in_ok-sort_by.ensures.stable lt (paths_rank documents)
          (always_returns_same _ (λ a r. is_lt r ≡ lt a.0.now a.1.0.now) _ (λ a r f' k. search rules));
    }
