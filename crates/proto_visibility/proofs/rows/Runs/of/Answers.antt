use Rattle.std.proofs.Common.{List, ◌↔◌, ℕ, rules, sym, subst}
use Rattle.std.specs.List.{Contains}
use Rattle.std.specs.List.Sorted.{IsNonDecreasingBy}
use Rattle.std.proofs.lemmas.List.Sorted.{IsNonDecreasingBy-from_sort_by_key, IsPermutation-sym}
use Rattle.proto_visibility.specs.declared.rows.Run.{Run}
use Rattle.proto_visibility.specs.Tables.Rows.{AreWhole, numbers_in}
use Rattle.proto_visibility.proofs.RowRunLemmas.{moved_numbers, moved_whole}
use Rattle.proto_visibility.proofs.rows.Runs.of.Goals as goal

pub joined-requires-clause-order : goal.joined-requires-clause-order
joined-requires-clause-order c =
    subst (λ (xs : List Run). IsNonDecreasingBy (λ (r : Run). r.first) xs) (sym c.as_slice.ensures.value)
    (IsNonDecreasingBy-from_sort_by_key (λ (run : Run). run.first) c.sort_unstable_by_key.new.self.items
    c.sort_unstable_by_key.ensures.sorted (λ a r q k. search rules))

pub joined-requires-clause-whole : goal.joined-requires-clause-whole
joined-requires-clause-whole c =
    subst AreWhole (sym c.as_slice.ensures.value)
    (moved_whole c.args.runs.now.items c.sort_unstable_by_key.new.self.items
    c.sort_unstable_by_key.ensures.permutation c.requires)

pub returns : goal.returns
returns c = λ number.
    let old = c.args.runs.now.items in
    let sorted = c.sort_unstable_by_key.new.self.items in
    let moved = c.sort_unstable_by_key.ensures.permutation in
    let are = subst (λ (xs : List Run). (number : ℕ) → Contains (numbers_in c.in_ok-runs.runs.items) number
    ↔ Contains (numbers_in xs) number) c.as_slice.ensures.value c.in_ok-runs.ensures.numbers in (
      λ there. moved_numbers old sorted moved number ((are number).0 there),
      λ there. (are number).1 (moved_numbers sorted old (IsPermutation-sym old sorted moved) number there),
    )
