-- Offsets of columns.
use Rattle.std.proofs.Common.{◌≡◌, ◌∙◌, sym, refl, ap, ℕ, suc, zero, ◌+◌, ◌-◌, ◌<◌, ◌≤◌, ◌==◌, ◌&&◌, Bool, true, false}
use Rattle.std.proofs.Common.{cond, List, length, take, drop, get_or, inl, inr, ◌⊎◌, arith, drop-cons}
use Rattle.std.specs.Prelude.{Option, None, Some}
use Rattle.std.specs.List.{find, range_with_len}
use Rattle.std.proofs.lemmas.List.Sums.{sum_by_more}
use Rattle.std.proofs.lemmas.List.{take_all}
use Rattle.std.proofs.Math.ListN.{drop_of_length-le}
use Rattle.std.proofs.Math.Bool.{and-false}
use Rattle.std.proofs.lemmas.Bool.{eq-eqb, ne_eqb, cases_lt}
use Rattle.scip_pages.specs.declared.columns.ColumnUnit.{ColumnUnit}
use Rattle.scip_pages.specs.Columns.{is_first_byte, units_of, units_in, is_uncut, is_at}

-- the first offset from `at` on that passes
abbrev pub first_from : (ℕ → Bool) → ℕ → ℕ → Option ℕ
first_from p most at = find p (range_with_len at (most + 1 - at))

pub first_here : (p : ℕ → Bool) (most at : ℕ) → at ≤ most
    → first_from p most at ≡ cond (p at) (Some at) (first_from p most (at + 1))
first_here p most at inside =
    let a : most + 1 - at ≡ suc (most - at) = omega arith in
    let b : most + 1 - (at + 1) ≡ most - at = omega arith in
    rw (a, b) refl

-- the units before an offset, and those before the next
pub units_rise : (unit : ColumnUnit) (line : List ℕ) (a : ℕ)
    → units_in unit (take a line) ≤ units_in unit (take (a + 1) line)
units_rise unit line a = by (cases_lt a (length line))
  where
    by : (a < length line) ⊎ (length line ≤ a) → units_in unit (take a line) ≤ units_in unit (take (a + 1) line)
    by (inl inside) = omega (arith, sum_by_more (units_of unit) line a 0 inside)
    by (inr past) = rw (take_all a line past, take_all (a + 1) line (omega arith)) (omega arith)

-- where more units stand before an offset than the column counts, no offset from there on is at the column
not_at : (unit : ColumnUnit) (line : List ℕ) (column at : ℕ) → column < units_in unit (take at line)
    → is_at unit line column at ≡ false
not_at unit line column at more =
    rw (ne_eqb (units_in unit (take at line)) column (λ e. omega (arith, more, e)))
    (and-false (is_uncut (drop at line)))

pub none_past : (unit : ColumnUnit) (line : List ℕ) (column n at : ℕ) → column < units_in unit (take at line)
    → find (is_at unit line column) (range_with_len at n) ≡ None
none_past unit line column zero at more = refl
none_past unit line column (suc n) at more =
    rw (not_at unit line column at more)
    (none_past unit line column n (at + 1) (omega (arith, more, units_rise unit line at)))

-- whether an offset inside a line is at a column
pub is_at_inside : (unit : ColumnUnit) (line : List ℕ) (column at : ℕ) → at < length line
    → is_at unit line column at ≡ (is_first_byte (get_or line at 0) && (units_in unit (take at line) == column))
is_at_inside unit line column at inside = rw (drop-cons line at 0 inside) refl

-- and whether its end is
pub is_at_end : (unit : ColumnUnit) (line : List ℕ) (column : ℕ)
    → is_at unit line column (length line) ≡ (units_in unit line == column)
is_at_end unit line column =
    rw (drop_of_length-le line {i = length line} (omega arith), take_all (length line) line (omega arith)) refl

-- what is at an offset inside a line decides whether the offset is the one
pub is_here : (unit : ColumnUnit) (line : List ℕ) (column at units : ℕ) → at < length line
    → units ≡ units_in unit (take at line)
    → (is_first_byte (get_or line at 0) && (units == column)) ≡ true
    → first_from (is_at unit line column) (length line) at ≡ Some at
is_here unit line column at units inside counted test =
    first_here (is_at unit line column) (length line) at (omega (arith, inside))
    ∙ ap (λ b. cond b (Some at) (first_from (is_at unit line column) (length line) (at + 1)))
    (is_at_inside unit line column at inside ∙ ap (λ n. is_first_byte (get_or line at 0) && (n == column)) (sym counted)
    ∙ test)

pub goes_on : (unit : ColumnUnit) (line : List ℕ) (column at units : ℕ) → at < length line
    → units ≡ units_in unit (take at line)
    → (is_first_byte (get_or line at 0) && (units == column)) ≡ false
    → first_from (is_at unit line column) (length line) at ≡ first_from (is_at unit line column) (length line) (at + 1)
goes_on unit line column at units inside counted test =
    first_here (is_at unit line column) (length line) at (omega (arith, inside))
    ∙ ap (λ b. cond b (Some at) (first_from (is_at unit line column) (length line) (at + 1)))
    (is_at_inside unit line column at inside ∙ ap (λ n. is_first_byte (get_or line at 0) && (n == column)) (sym counted)
    ∙ test)

-- and so does its end
pub ends_here : (unit : ColumnUnit) (line : List ℕ) (column at units : ℕ) → at ≡ length line
    → units ≡ units_in unit (take at line) → units ≡ column
    → first_from (is_at unit line column) (length line) at ≡ Some (length line)
ends_here unit line column at units end counted here =
    let whole : units ≡ units_in unit line = counted ∙ ap (units_in unit) (take_all at line (omega (arith, end))) in
    let test : is_at unit line column (length line) ≡ true =
    is_at_end unit line column ∙ eq-eqb (units_in unit line) column (sym whole ∙ here) in
    ap (first_from (is_at unit line column) (length line)) end
    ∙ (first_here (is_at unit line column) (length line) (length line) (omega arith)
    ∙ ap (λ b. cond b (Some (length line)) (first_from (is_at unit line column) (length line) (length line + 1))) test)

pub more_units : (unit : ColumnUnit) (line : List ℕ) (at units : ℕ) → at < length line
    → units ≡ units_in unit (take at line)
    → units + units_of unit (get_or line at 0) ≡ units_in unit (take (at + 1) line)
more_units unit line at units inside counted =
    ap (λ n. n + units_of unit (get_or line at 0)) counted ∙ sym (sum_by_more (units_of unit) line at 0 inside)
