use Rattle.std.proofs.Common.{rules, ◌≡◌, ◌∙◌, ap, length, ℕ, subst}
use Rattle.std.specs.Ordering.{is_lt}
use Rattle.std.proofs.lemmas.Fn.{always_returns_same}
use Rattle.scip_query.specs.Tables.{numbers, IsTable}
use Rattle.scip_query.specs.Tables.Searches.{inner_cmp}
use Rattle.scip_query.proofs.TableLemmas.{inner_ranks}
use Rattle.scip_query.proofs.tables.inner_of.Goals as goal

pub returns : goal.returns
returns c =
    let occurrences = c.args.document.now.occurrences in
    let lt = λ (a b : ℕ). is_lt (inner_cmp occurrences a b) in
    rw c.from_vec.ensures (subst (λ all. IsTable (inner_cmp occurrences) all c.sort_by.new.self.items)
    (c.in_ok-table.ensures ∙ ap (λ l. numbers (length l)) c.as_slice-occurrences.ensures) record {
      permutation = c.in_ok-sort_by.ensures.permutation;
      sorted = c.in_ok-sort_by.ensures.sorted lt (inner_ranks occurrences)
          (always_returns_same _ (λ a r. is_lt r ≡ lt a.0.now a.1.0.now) _ (λ a r f' k. search rules));
      stable = c.in_ok-sort_by.ensures.stable lt (inner_ranks occurrences)
          (always_returns_same _ (λ a r. is_lt r ≡ lt a.0.now a.1.0.now) _ (λ a r f' k. search rules));
    })
