-- Runs of numbers.
use Rattle.std.proofs.Common.{◌≡◌, ◌↔◌, ◌⊎◌, inl, inr, ℕ, ◌+◌, ◌-◌, ◌<◌, ◌≤◌, true, false, zero, suc, List, [], ◌∷◌}
use Rattle.std.proofs.Common.{◌++◌, length, get_or, take, drop, Some, None, ltb, leb, refl, ap, sym, ◌∙◌, subst, arith}
use Rattle.std.proofs.Common.{IsTrue}
use Rattle.std.specs.List.{Contains, slice_get, range_with_len}
use Rattle.std.specs.List.Sorted.{IsPartitionPoint, IsPermutation}
use Rattle.std.proofs.lemmas.Bool.{cases_lt, ltb-true, ltb-false, leb-true}
use Rattle.std.proofs.lemmas.Bool.Decides.{nat_tests}
use Rattle.std.proofs.lemmas.Option.{slice_get_within, get_or_from_slice_get, slice_get-get_or, same_Some}
use Rattle.std.proofs.lemmas.List.{append_assoc, get_or_default, take_all, take_more}
use Rattle.std.proofs.lemmas.List.FromFn.{length-range_with_len, get_or-range_with_len}
use Rattle.std.proofs.lemmas.List.Elements.{All-contains, All-nil, All-push, Contains-append_left}
use Rattle.std.proofs.lemmas.List.Elements.{Contains-append_cases, Contains-append_right, Contains-get_or}
use Rattle.std.proofs.lemmas.List.Sorted.{Contains-permutation, IsNonDecreasingBy-short, IsNonDecreasingBy-push}
use Rattle.std.proofs.lemmas.List.Sorted.{IsPermutation-sym}
use Rattle.proto_visibility.specs.declared.rows.Run.{Run}
use Rattle.proto_visibility.specs.Tables.Rows.{numbers_in, IsIn, HasNumber, AreWhole, AreInOrder, AreBefore}

-- ---- the numbers of runs

range_from : (a n x : ℕ) → Contains (range_with_len a n) x → (a ≤ x) × (x < a + n)
range_from a n x there =
    let short = length-range_with_len a n in
    let within : there.0 < n = omega (arith, there.1, short) in
    let at = get_or-range_with_len a n there.0 x within in
    (omega (arith, there.2, at), omega (arith, within, there.2, at))

range_if : (a n x : ℕ) → a ≤ x → x < a + n → Contains (range_with_len a n) x
range_if a n x low high =
    let short = length-range_with_len a n in
    let is : a + (x - a) ≡ x = omega (arith, low) in
    (x - a, omega (arith, low, high, short), get_or-range_with_len a n (x - a) x (omega (arith, low, high)) ∙ is)

run_from : (run : Run) (number : ℕ) → Contains (range_with_len run.first (run.last + 1 - run.first)) number
    → IsIn run number
run_from run number there =
    let its = range_from run.first (run.last + 1 - run.first) number there in
    (its.0, omega (arith, its.0, its.1))

run_if : (run : Run) (number : ℕ) → IsIn run number
    → Contains (range_with_len run.first (run.last + 1 - run.first)) number
run_if run number is =
    range_if run.first (run.last + 1 - run.first) number is.0 (omega (arith, is.0, is.1))

pub in_runs_from : (runs : List Run) (number : ℕ) → Contains (numbers_in runs) number
    → (k : ℕ) × (run : Run) × (slice_get runs k ≡ Some run) × IsIn run number
in_runs_from [] number there = absurd (omega (arith, there.1))
in_runs_from (run ∷ runs) number there =
    elim (Contains-append_cases
    (range_with_len run.first (run.last + 1 - run.first)) (numbers_in runs) number there) [
      | inl here ↦ (zero, run, refl, run_from run number here)
      | inr later ↦ (let at = in_runs_from runs number later in (suc at.0, at.1, at.2, at.3))
    ]

pub in_runs_if : (runs : List Run) (k : ℕ) (run : Run) (number : ℕ) → slice_get runs k ≡ Some run → IsIn run number
    → Contains (numbers_in runs) number
in_runs_if [] k run number stands is = absurd cc
in_runs_if (first ∷ runs) zero run number stands is =
    let same : first ≡ run = same_Some first run stands in
    Contains-append_left (range_with_len first.first (first.last + 1 - first.first)) (numbers_in runs) number
    (run_if first number (subst (λ (r : Run). IsIn r number) (sym same) is))
in_runs_if (first ∷ runs) (suc k) run number stands is =
    Contains-append_right (range_with_len first.first (first.last + 1 - first.first)) (numbers_in runs) number
    (in_runs_if runs k run number stands is)

pub numbers_append : (runs others : List Run) → numbers_in (runs ++ others) ≡ numbers_in runs ++ numbers_in others
numbers_append [] others = refl
numbers_append (run ∷ runs) others =
    ap (λ xs. range_with_len run.first (run.last + 1 - run.first) ++ xs) (numbers_append runs others)
    ∙ sym (append_assoc (range_with_len run.first (run.last + 1 - run.first)) (numbers_in runs) (numbers_in others))

pub in_one : (run : Run) (number : ℕ) → Contains (numbers_in (run ∷ [])) number → IsIn run number
in_one run number there =
    elim (Contains-append_cases (range_with_len run.first (run.last + 1 - run.first)) [] number there) [
      | inl here ↦ run_from run number here
      | inr none ↦ absurd (omega (arith, none.1))
    ]

-- one more run
pub in_pushed : (runs : List Run) (run : Run) (number : ℕ) → Contains (numbers_in (runs ++ run ∷ [])) number
    ↔ HasNumber runs run number
in_pushed runs run number =
    let parts = numbers_append runs (run ∷ []) in (
      λ there. elim (Contains-append_cases (numbers_in runs) (numbers_in (run ∷ [])) number
          (subst (λ xs. Contains xs number) parts there)) [
            | inl before ↦ inl before
            | inr last ↦ inr (in_one run number last)
          ],
      λ has. subst (λ xs. Contains xs number) (sym parts) (elim has [
        | inl before ↦ Contains-append_left (numbers_in runs) (numbers_in (run ∷ [])) number before
        | inr is ↦ Contains-append_right (numbers_in runs) (numbers_in (run ∷ [])) number
            (in_runs_if (run ∷ []) zero run number refl is)
      ]),
    )

-- ---- runs in order

pub pushed_order : (runs : List Run) (run : Run) → AreBefore runs run.first → run.first ≤ run.last
    → AreInOrder (runs ++ run ∷ [])
pushed_order runs run before whole = record {
  whole = All-push (λ (r : Run). r.first ≤ r.last) runs run before.order.whole whole;
  firsts = IsNonDecreasingBy-push (λ (r : Run). r.first) runs run before.order.firsts
      (λ d some. let w = before.order.whole (length runs - 1) d (omega (arith, some)) in
      let e = before.ended (length runs - 1) d (omega (arith, some)) in omega (arith, w, e));
  lasts = IsNonDecreasingBy-push (λ (r : Run). r.last) runs run before.order.lasts
      (λ d some. let e = before.ended (length runs - 1) d (omega (arith, some)) in omega (arith, e, whole));
}

pub none_order : (runs : List Run) → runs ≡ [] → AreInOrder runs
none_order runs empty =
    subst AreInOrder (sym empty) (record {
      whole = All-nil (λ (r : Run). r.first ≤ r.last);
      firsts = IsNonDecreasingBy-short (λ (r : Run). r.first) [] (omega arith);
      lasts = IsNonDecreasingBy-short (λ (r : Run). r.last) [] (omega arith);
    })

-- the first run alone comes before none
pub first_before : (run : Run) (runs : List Run) → runs ≡ [] → AreBefore runs run.first
first_before run runs empty =
    subst (λ (rs : List Run). AreBefore rs run.first) (sym empty) (record {
      order = none_order [] refl;
      ended = All-nil (λ (r : Run). r.last ≤ run.first);
    })

-- ---- a run with a next one

-- the next one is behind a run that is kept
pub other_run : (runs : List Run) (run next : Run) (other : ℕ)
    → HasNumber (runs ++ run ∷ []) next other ↔ (HasNumber runs run other ⊎ IsIn next other)
other_run runs run next other = (
  λ has. elim has [
    | inl before ↦ inl ((in_pushed runs run other).0 before)
    | inr is ↦ inr is
  ],
  λ has. elim has [
    | inl before ↦ inl ((in_pushed runs run other).1 before)
    | inr is ↦ inr is
  ],
)

-- ---- runs that begin one behind the other, taken one by one

-- the runs and the last one have the numbers of those up to the one with this index
pub record AreTaken (runs : List Run) (run : Run) (all : List Run) (index : ℕ) : Type 0 where
  pub whole : run.first ≤ run.last
  pub behind : (d : Run) → run.first ≤ (get_or all index d).first
  pub before : AreBefore runs run.first
  pub has : (other : ℕ) → HasNumber runs run other ↔ Contains (numbers_in (take (index + 1) all)) other

pub taken_first : (runs : List Run) (first : Run) (others : List Run) → runs ≡ [] → AreWhole (first ∷ others)
    → AreTaken runs first (first ∷ others) 0
taken_first runs first others empty whole = record {
  whole = whole 0 first (omega arith);
  behind = λ d. omega arith;
  before = first_before first runs empty;
  has = λ other. subst (λ (rs : List Run). HasNumber rs first other ↔ Contains (numbers_in (first ∷ [])) other)
      (sym empty) (
        λ has. elim has [
          | inl none ↦ absurd (omega (arith, none.1))
          | inr is ↦ in_runs_if (first ∷ []) zero first other refl is
        ],
        λ there. inr (in_one first other there),
      );
}

pub taken_more : (runs others : List Run) (run last next : Run) (all : List Run) (index : ℕ)
    → AreTaken runs run all index → index + 1 < length all → next ≡ get_or all (index + 1) next
    → ((other : ℕ) → HasNumber others last other ↔ (HasNumber runs run other ⊎ IsIn next other))
    → (AreBefore runs run.first → AreBefore others last.first) → last.first ≤ last.last → last.first ≤ next.first
    → AreTaken others last all (index + 1)
taken_more runs others run last next all index so_far within is has before whole behind = record {
  whole = whole;
  behind = λ d. (let at = ap (λ (r : Run). r.first) (is ∙ get_or_default all (index + 1) next d within) in
      omega (arith, behind, at));
  before = before so_far.before;
  has = λ other. (
      let front = take (index + 1) all in
      let more : take (index + 1 + 1) all ≡ front ++ next ∷ [] =
      take_more all (index + 1) next within ∙ ap (λ (r : Run). front ++ r ∷ []) (sym is) in
      subst (λ (rs : List Run). HasNumber others last other ↔ Contains (numbers_in rs) other) (sym more) (
        λ there. (in_pushed front next other).1 (elim ((has other).0 there) [
          | inl old ↦ inl ((so_far.has other).0 old)
          | inr new ↦ inr new
        ]),
        λ there. (has other).1 (elim ((in_pushed front next other).0 there) [
          | inl old ↦ inl ((so_far.has other).1 old)
          | inr new ↦ inr new
        ]),
      ));
}

pub taken_all : (runs : List Run) (run : Run) (all : List Run) (index : ℕ) → AreTaken runs run all index
    → length all ≤ index + 1 → (number : ℕ)
    → Contains (numbers_in (runs ++ run ∷ [])) number ↔ Contains (numbers_in all) number
taken_all runs run all index so_far few number =
    subst (λ (rs : List Run). Contains (numbers_in (runs ++ run ∷ [])) number ↔ Contains (numbers_in rs) number)
    (take_all (index + 1) all few) (
      λ there. (so_far.has number).0 ((in_pushed runs run number).0 there),
      λ there. (in_pushed runs run number).1 ((so_far.has number).1 there),
    )

-- a list of at least one is its first item before the others
pub head_tail : {X : Type 0} (xs : List X) (d : X) → 1 ≤ length xs
    → get_or xs 0 d ∷ take (length xs - 1) (drop 1 xs) ≡ xs
head_tail [] d h = absurd (omega (arith, h))
head_tail (x ∷ xs) d h = ap (λ ys. x ∷ ys) (take_all (length (x ∷ xs) - 1) xs (omega arith))

pub behind_first : {X : Type 0} (first : X) (others : List X) (index : ℕ) (d : X)
    → get_or others index d ≡ get_or (first ∷ others) (index + 1) d
behind_first first others index d =
    let next : index + 1 ≡ suc index = omega arith in ap (λ n. get_or (first ∷ others) n d) (sym next)

pub moved_whole : (runs others : List Run) → IsPermutation runs others → AreWhole runs → AreWhole others
moved_whole runs others moved whole = λ k d inside.
    All-contains (λ (r : Run). r.first ≤ r.last) runs (get_or others k d) whole
    (Contains-permutation others runs (get_or others k d) (IsPermutation-sym runs others moved)
    (Contains-get_or others k d inside))

-- a run of each of these runs is in the others
pub moved_numbers : (runs others : List Run) → IsPermutation runs others → (number : ℕ)
    → Contains (numbers_in others) number → Contains (numbers_in runs) number
moved_numbers runs others moved number there =
    let its = in_runs_from others number there in
    let within = slice_get_within others its.0 its.1 its.2 in
    let held : Contains others its.1 = (its.0, within, get_or_from_slice_get others its.0 its.1 its.1 its.2) in
    let old = Contains-permutation others runs its.1 (IsPermutation-sym runs others moved) held in
    in_runs_if runs old.0 its.1 number
    (slice_get-get_or runs old.0 its.1 old.1 ∙ ap Some old.2) its.3

-- ---- a search by halves

is_no_more : (a b : ℕ) → a ≤ b → leb a b ≡ true
is_no_more a b h = grind (arith, nat_tests)

module _ (runs : List Run) (number before : ℕ) (order : AreInOrder runs)
    (point : IsPartitionPoint (λ (r : Run). ltb r.last number ≡ true) (λ (r : Run). ltb r.last number ≡ false) runs
    before)
  where
    -- a run that has the number isn't among those that end before it
    behind_point : (k : ℕ) (run : Run) → slice_get runs k ≡ Some run → IsIn run number → before ≤ k
    behind_point k run stands is = elim (cases_lt k before) [
      | inl early ↦ (
          let is_run = get_or_from_slice_get runs k run run stands in
          let ends = ltb-true (get_or runs k run).last number (point.0 k run (omega arith) early) in
          let same = ap (λ (r : Run). r.last) is_run in
          absurd (omega (arith, ends, same, is.1)))
      | inr late ↦ late
    ]

    pub run_has : (run : Run) → slice_get runs before ≡ Some run
        → IsTrue (leb run.first number) ↔ Contains (numbers_in runs) number
    run_has run stands =
        let within = slice_get_within runs before run stands in
        let is_run = get_or_from_slice_get runs before run run stands in (
          λ t. (
              let ends = ltb-false (get_or runs before run).last number
              (point.1 before run (omega arith) within) in
              let same = ap (λ (r : Run). r.last) is_run in
              in_runs_if runs before run number stands (leb-true run.first number t, omega (arith, ends, same))
              ),
          λ there. (
              let its = in_runs_from runs number there in
              let late = behind_point its.0 its.1 its.2 its.3 in
              let inside = slice_get_within runs its.0 its.1 its.2 in
              let rises = order.firsts before its.0 run late inside in
              let here = ap (λ (r : Run). r.first) is_run in
              let other = ap (λ (r : Run). r.first) (get_or_from_slice_get runs its.0 its.1 run its.2) in
              is_no_more run.first number (omega (arith, rises, here, other, its.3.0))
              ),
        )

    pub no_run_has : slice_get runs before ≡ None → Contains (numbers_in runs) number → ⊥
    no_run_has none there =
        let its = in_runs_from runs number there in
        let late = behind_point its.0 its.1 its.2 its.3 in
        let inside = slice_get_within runs its.0 its.1 its.2 in
        let some = slice_get-get_or runs before its.1 (omega (arith, late, inside)) in
        cc
