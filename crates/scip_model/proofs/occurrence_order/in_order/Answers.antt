use Rattle.std.proofs.Common.{◌≡◌, rules}
use Rattle.std.specs.Ordering.{eq_by_cmp, is_lt}
use Rattle.std.proofs.lemmas.Cmp.{on_total}
use Rattle.std.proofs.lemmas.Fn.{always_returns_same, dedup_same}
use Rattle.std.proofs.lemmas.List.Sorted.{ranks_by}
use Rattle.scip_model.specs.OccurrenceOrder.{occurrence_cmp}
use Rattle.scip_model.specs.Tables.Plans.{occurrence_of, planned_cmp}
use Rattle.scip_model.proofs.MergeApartLemmas.{made-single}
use Rattle.scip_model.proofs.OccurrenceOrderLemmas.{occurrence_total}
use Rattle.scip_model.proofs.occurrence_order.in_order.Goals as goal

pub returns : goal.returns
returns c = λ around.
    let f = occurrence_of around c.args.texts.now in
    let cmp = planned_cmp c.args.texts.now in
    made-single f occurrence_cmp occurrence_total c.args.list.items c.sort_by.new.self.items c.dedup_by.new.self.items
    c.in_ok-sort_by.ensures.permutation
    (c.in_ok-sort_by.ensures.sorted (λ x y. is_lt (cmp x y)) (ranks_by (on_total f occurrence_total) (λ x. x))
    (always_returns_same _ (λ a r. is_lt r ≡ is_lt (cmp a.0.now a.1.0.now)) _ (λ a r g called. search rules)))
    (dedup_same _ (eq_by_cmp cmp) _ (λ x y b g x' y' called. search rules) _ _ c.dedup_by.ensures.filtered)
