use Rattle.std.proofs.Common.{◌≡◌, List, sym, subst}
use Rattle.std.specs.List.{Contains, dedup}
use Rattle.std.specs.List.Sorted.{IsStrictlySortedBy}
use Rattle.std.proofs.lemmas.List.Filters.{dedup_is}
use Rattle.std.proofs.lemmas.List.Kept.{Contains-dedup, Contains-from_dedup, IsStrictlySortedBy-dedup}
use Rattle.std.proofs.lemmas.List.Sorted.{Contains-permutation, IsPermutation-sym}
use Rattle.scip_model.specs.Tables.ExternalLists.{Pair, pair_cmp}
use Rattle.scip_model.proofs.ExternalSymbolPairLemmas.{pairs_total, same, ties, equivalence, exact}
use Rattle.scip_model.proofs.external_symbols.without_doubles.Goals as goal

pub returns-clause-same : goal.returns-clause-same
returns-clause-same c = λ x.
    let sorted : List Pair = c.sort.new.self.items in
    let once : c.dedup.new.self.items ≡ dedup same sorted =
    dedup_is same sorted c.dedup.new.self.items c.dedup.ensures.filtered in (
      λ there. Contains-permutation sorted c.args.named.items x
          (IsPermutation-sym c.args.named.items sorted c.in_ok-sort.ensures.permutation)
          (Contains-from_dedup same sorted x (subst (λ (l : List Pair). Contains l x) once there)),
      λ there. subst (λ (l : List Pair). Contains l x) (sym once)
          (Contains-dedup equivalence exact sorted x
          (Contains-permutation c.args.named.items sorted x c.in_ok-sort.ensures.permutation there)),
    )

pub returns-clause-rising : goal.returns-clause-rising
returns-clause-rising c =
    let sorted : List Pair = c.sort.new.self.items in
    let once : c.dedup.new.self.items ≡ dedup same sorted =
    dedup_is same sorted c.dedup.new.self.items c.dedup.ensures.filtered in
    subst (IsStrictlySortedBy pair_cmp) (sym once)
    (IsStrictlySortedBy-dedup pairs_total ties sorted c.in_ok-sort.ensures.sorted)
