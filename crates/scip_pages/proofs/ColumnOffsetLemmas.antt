-- Each column is at one offset.
use Rattle.std.proofs.Common.{◌≡◌, ◌∙◌, sym, refl, ap, subst, ℕ, suc, zero, ◌+◌, ◌<◌, ◌≤◌, ◌==◌, Bool, true}
use Rattle.std.proofs.Common.{false, cond, List, length, take, drop, get_or, inl, inr, ◌⊎◌, arith, ◌-◌}
use Rattle.std.specs.Prelude.{Some}
use Rattle.std.specs.List.{find, range_with_len}
use Rattle.std.proofs.lemmas.List.Sums.{sum_by_more}
use Rattle.std.proofs.lemmas.Bool.{cases_eq, and_parts, eqb-true, false_from_ne_true}
use Rattle.std.proofs.lemmas.Bool.Decides.{nat_tests}
use Rattle.scip_pages.specs.declared.columns.ColumnUnit.{ColumnUnit}
use Rattle.scip_pages.specs.declared.columns.ColumnUnit.TheVariants.{Utf8, Utf16, Utf32}
use Rattle.scip_pages.specs.Columns.{is_first_byte, units_of, units_in, is_uncut, is_at, offset_of}
use Rattle.scip_pages.specs.ColumnLaws.{AtOneOffset, IsAtItsOffset}
use Rattle.scip_pages.proofs.ColumnLemmas.{first_from, first_here, units_rise, is_at_inside}

-- the first number that passes
find_first : (p : ℕ → Bool) (n a k : ℕ) → a ≤ k → k < a + n → p k ≡ true → ((j : ℕ) → j < k → p j ≡ false)
    → find p (range_with_len a n) ≡ Some k
find_first p zero a k least most passes others = absurd (omega (arith, least, most))
find_first p (suc n) a k least most passes others =
    by (cases_eq a k) (λ later. find_first p n (a + 1) k later (omega (arith, most)) passes others)
  where
    by : (a ≡ k) ⊎ (a ≡ k → ⊥) → (a + 1 ≤ k → find p (range_with_len (a + 1) n) ≡ Some k)
        → find p (range_with_len a (suc n)) ≡ Some k
    by (inl same) more = ap (λ b. cond b (Some a) (find p (range_with_len (a + 1) n))) (ap p same ∙ passes)
        ∙ ap Some same
    by (inr other) more = rw (others a (omega (arith, least, other))) (more (omega (arith, least, other)))

-- what is found is among the numbers, and passes
is_found : (p : ℕ → Bool) (n a k : ℕ) → find p (range_with_len a n) ≡ Some k → (k < a + n) × (p k ≡ true)
is_found p zero a k e = absurd cc
is_found p (suc n) a k e = by (p a) refl e (λ later. is_found p n (a + 1) k later)
  where
    by : (b : Bool) → p a ≡ b → cond b (Some a) (find p (range_with_len (a + 1) n)) ≡ Some k
        → (find p (range_with_len (a + 1) n) ≡ Some k → (k < (a + 1) + n) × (p k ≡ true))
        → (k < a + suc n) × (p k ≡ true)
    by true is e more = let same : a ≡ k = cc in (omega (arith, same), sym (ap p same) ∙ is)
    by false is e more = let found : (k < (a + 1) + n) × (p k ≡ true) = more e in (omega (arith, found.0), found.1)

units_later : (unit : ColumnUnit) (line : List ℕ) (a d : ℕ)
    → units_in unit (take a line) ≤ units_in unit (take (a + d) line)
units_later unit line a zero = let e : a + 0 ≡ a = omega arith in rw e (omega arith)
units_later unit line a (suc d) = let e : a + suc d ≡ (a + d) + 1 = omega arith in
    rw e (omega (arith, units_later unit line a d, units_rise unit line (a + d)))

-- a first byte counts for something
counts : (unit : ColumnUnit) (byte : ℕ) → is_first_byte byte ≡ true → 1 ≤ units_of unit byte
counts Utf8 byte first = omega arith
counts Utf16 byte first = rw first (grind (arith, nat_tests))
counts Utf32 byte first = rw first (omega arith)

-- where no more units than a column counts come before an offset, none before that is at the column
none_before : (unit : ColumnUnit) (line : List ℕ) (column start : ℕ) → start ≤ length line
    → units_in unit (take start line) ≤ column
    → (a : ℕ) → a < start → is_at unit line column a ≡ false
none_before unit line column start inside few a before = false_from_ne_true (is_at unit line column a) (λ also.
    let there : (is_first_byte (get_or line a 0) ≡ true) × ((units_in unit (take a line) == column) ≡ true) =
    and_parts (is_first_byte (get_or line a 0)) (units_in unit (take a line) == column)
    (sym (is_at_inside unit line column a (omega (arith, inside, before))) ∙ also) in
    let e : (a + 1) + (start - (a + 1)) ≡ start = omega (arith, before) in
    let later : units_in unit (take (a + 1) line) ≤ units_in unit (take start line) =
    subst (λ n. units_in unit (take (a + 1) line) ≤ units_in unit (take n line)) e
    (units_later unit line (a + 1) (start - (a + 1))) in
    omega (
      arith,
      later,
      few,
      sum_by_more (units_of unit) line a 0 (omega (arith, inside, before)),
      counts unit (get_or line a 0) there.0,
      eqb-true (units_in unit (take a line)) column there.1,
    ))

-- So the first that is at it is the first from there on.
pub first_from_there : (unit : ColumnUnit) (line : List ℕ) (column start : ℕ) → start ≤ length line
    → units_in unit (take start line) ≤ column
    → first_from (is_at unit line column) (length line) start ≡ offset_of unit line column
first_from_there unit line column zero inside few =
    let all : length line + 1 - 0 ≡ length line + 1 = omega arith in
    ap (λ n. find (is_at unit line column) (range_with_len 0 n)) all
first_from_there unit line column (suc start) inside few =
    let next : start + 1 ≡ suc start = omega arith in
    let more : units_in unit (take (start + 1) line) ≤ column =
    subst (λ n. units_in unit (take n line) ≤ column) (sym next) few in
    let here : first_from (is_at unit line column) (length line) start
    ≡ first_from (is_at unit line column) (length line) (start + 1) =
    first_here (is_at unit line column) (length line) start (omega (arith, inside))
    ∙ ap (λ b. cond b (Some start) (first_from (is_at unit line column) (length line) (start + 1)))
    (none_before unit line column (start + 1) (omega (arith, inside)) more start (omega arith)) in
    ap (λ n. first_from (is_at unit line column) (length line) n) (sym next) ∙ sym here
    ∙ first_from_there unit line column start (omega (arith, inside))
    (omega (arith, few, more, units_rise unit line start))

pub at_one_offset : AtOneOffset
at_one_offset unit line column offset inside at =
    let here : (is_uncut (drop offset line) ≡ true) × ((units_in unit (take offset line) == column) ≡ true) =
    and_parts (is_uncut (drop offset line)) (units_in unit (take offset line) == column) at in
    find_first (is_at unit line column) (length line + 1) 0 offset (omega arith) (omega (arith, inside)) at
    (none_before unit line column offset inside
    (omega (arith, eqb-true (units_in unit (take offset line)) column here.1)))

pub is_at_its_offset : IsAtItsOffset
is_at_its_offset unit line column offset e =
    let found = is_found (is_at unit line column) (length line + 1) 0 offset e in (omega (arith, found.0), found.1)
