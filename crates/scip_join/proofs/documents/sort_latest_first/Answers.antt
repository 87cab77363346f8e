use Rattle.std.proofs.Common.{◌≡◌, List, rules, subst}
use Rattle.std.specs.Ordering.{is_lt}
use Rattle.std.proofs.lemmas.Cmp.{nat_list_cmp_total}
use Rattle.std.proofs.lemmas.Fn.{always_returns_same}
use Rattle.std.proofs.lemmas.List.Sorted.{ranks_by}
use Rattle.scip_join.specs.declared.piece.Piece.{Piece}
use Rattle.scip_join.specs.Tables.{piece_cmp, IsOrdered}
use Rattle.scip_join.proofs.documents.sort_latest_first.Goals as goal

pub returns : goal.returns
returns c =
    let lt = λ (a b : Piece). is_lt (piece_cmp a b) in
    let rank = ranks_by nat_list_cmp_total (λ (p : Piece). p.path) in
    subst (λ (l : List Piece). IsOrdered piece_cmp l c.sort_by.new.self.items) c.reverse.ensures.items record {
      permutation = c.in_ok-sort_by.ensures.permutation;
      sorted = c.in_ok-sort_by.ensures.sorted lt rank
          (always_returns_same _ (λ a r. is_lt r ≡ lt a.0.now a.1.0.now) _ (λ a r f' k. search rules));
      stable = c.in_ok-sort_by.ensures.stable lt rank
          (always_returns_same _ (λ a r. is_lt r ≡ lt a.0.now a.1.0.now) _ (λ a r f' k. search rules));
    }
