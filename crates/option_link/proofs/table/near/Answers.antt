use Rattle.std.proofs.Common.{◌≡◌, ◌≢◌, ◌<◌, ◌≤◌, List, ℕ, Some, length, take, drop, ltb, rules, ap, sym, ◌∙◌, subst}
use Rattle.std.specs.List.{Contains, slice_get}
use Rattle.std.proofs.lemmas.List.Sorted.{IsPartitionPoint-from_clause, IsPartitionedBy-ltb}
use Rattle.option_link.specs.declared.table.Listed.{Listed}
use Rattle.option_link.proofs.KeyLemmas.{near_from, near_to}
use Rattle.option_link.proofs.table.near.Goals as goal

pub returns : goal.returns
returns c =
    let listed = c.args.listed.now in
    let hash = c.args.number in
    let before = c.partition_point-before.result in
    let count = c.count_with-count.result in
    let behind = c.split_at.result.1.now in
    let back : behind ≡ drop before listed = c.split_at.ensures.back in
    let point = IsPartitionPoint-from_clause (λ (o : Listed). ltb o.hash64 hash) listed before
    c.partition_point-before.ensures.partitioned (IsPartitionedBy-ltb (λ (o : Listed). o.hash64) listed hash c.requires)
    (λ a r q k. search rules) in
    let few : count ≤ length (drop before listed) =
    subst (λ (xs : List Listed). count ≤ length xs) back c.count_with-count.ensures.few in
    let same = subst (λ (xs : List Listed). (k : ℕ) (one : Listed) → k < count → slice_get xs k ≡ Some one
    → one.hash64 ≡ hash) back c.count_with-count.ensures.same in
    let stop = subst (λ (xs : List Listed). (one : Listed) → slice_get xs count ≡ Some one → one.hash64 ≢ hash) back
    c.count_with-count.ensures.stop in
    let is : c.split_at-2.result.0.now ≡ take count (drop before listed) =
    c.split_at-2.ensures.front ∙ ap (take count) back in
    λ one. (
      λ there. near_from (λ (o : Listed). o.hash64) listed hash before point c.requires count few same stop one
          (subst (λ (xs : List Listed). Contains xs one) is there),
      λ its. subst (λ (xs : List Listed). Contains xs one) (sym is)
          (near_to (λ (o : Listed). o.hash64) listed hash before point c.requires count few same stop one its.0 its.1),
    )
