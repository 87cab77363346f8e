use Rattle.std.proofs.Common.{◌↔◌, ℕ, subst, sym, eqb}
use Rattle.std.specs.List.{Contains, IsDistinct}
use Rattle.proto_visibility.proofs.RowRisingLemmas.{rising_from_sort, same_numbers}
use Rattle.proto_visibility.proofs.rows.FileRow.of.Goals as goal

pub invariant_of-result : goal.invariant_of-result
invariant_of-result c = rising_from_sort c.in_ok-numbers.numbers.items c.sort.new.self.items
    (subst (IsDistinct eqb) (sym c.in_ok-numbers.ensures.items) c.requires) c.sort.ensures.permutation
    c.in_ok-sort.ensures.sorted

pub returns : goal.returns
returns c = subst (λ xs. (number : ℕ) → Contains c.sort.new.self.items number ↔ Contains xs number)
    c.in_ok-numbers.ensures.items
    (same_numbers c.in_ok-numbers.numbers.items c.sort.new.self.items c.sort.ensures.permutation)
