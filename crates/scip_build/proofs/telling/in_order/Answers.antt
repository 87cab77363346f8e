use Rattle.std.proofs.Common.{◌≡◌, List, refl, sym, subst, rules}
use Rattle.std.specs.List.{Contains, dedup}
use Rattle.std.specs.List.Sorted.{IsStrictlySortedBy}
use Rattle.std.specs.Ordering.{eq_by_cmp, is_lt}
use Rattle.std.specs.Cmp.{Equal-is}
use Rattle.std.proofs.lemmas.Cmp.{eq_by_cmp_equiv}
use Rattle.std.proofs.lemmas.Fn.{dedup_same}
use Rattle.std.proofs.lemmas.List.Kept.{Any-dedup, Contains-from_dedup, IsStrictlySortedBy-dedup}
use Rattle.std.proofs.lemmas.List.Sorted.{answers_always, Contains-permutation, IsPermutation-sym}
use Rattle.scip_build.specs.declared.omission.Omission.{Omission}
use Rattle.scip_build.specs.Kept.{told_cmp}
use Rattle.scip_build.proofs.KeptToldLemmas.{told_total, told_rank}
use Rattle.scip_build.proofs.telling.in_order.Goals as goal

pub returns : goal.returns
returns c =
    let all : List Omission = c.args.told.items in
    let sorted : List Omission = c.sort_by.new.self.items in
    let once : c.dedup_by.new.self.items ≡ dedup (eq_by_cmp told_cmp) sorted =
    dedup_same _ (eq_by_cmp told_cmp) _ (λ x y b f' x' y' k. search rules) _ _ c.dedup_by.ensures.filtered in
    let back : (x : Omission) → Contains (dedup (eq_by_cmp told_cmp) sorted) x → Contains all x = λ x there.
    Contains-permutation sorted all x
    (IsPermutation-sym all sorted c.in_ok-sort_by.ensures.permutation)
    (Contains-from_dedup (eq_by_cmp told_cmp) sorted x there) in
    record {
      same = λ own fault. (
        λ there. back fault (subst (λ (l : List Omission). Contains l fault) once there),
        λ there.
            let (k, y, within, stands, equal) = Any-dedup (eq_by_cmp_equiv told_total) sorted fault
            (Contains-permutation all sorted fault c.in_ok-sort_by.ensures.permutation there) in
            let same = own fault y there (back y (k, within, stands)) ((Equal-is (told_cmp fault y)).0 equal) in
            subst (λ (l : List Omission). Contains l fault) (sym once)
            (subst (Contains (dedup (eq_by_cmp told_cmp) sorted)) (sym same) (k, within, stands)),
      );
      rising = subst (IsStrictlySortedBy told_cmp) (sym once)
          (IsStrictlySortedBy-dedup told_total {E = eq_by_cmp told_cmp} (λ x y. refl) sorted
          (c.in_ok-sort_by.ensures.sorted (λ x y. is_lt (told_cmp x y)) told_rank
          (answers_always _ (λ a r. is_lt r ≡ is_lt (told_cmp a.0.now a.1.0.now)) _
          (λ f a r g called. search rules))));
    }
