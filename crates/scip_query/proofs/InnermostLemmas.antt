-- The first in a table that passes a test is, of those that pass, the first listed than which none is less.
use Rattle.std.proofs.Common.{◌≡◌, ℕ, zero, suc, Bool, true, false, not, ◌&&◌, ◌||◌, List, [], ◌∷◌, length, drop}
use Rattle.std.proofs.Common.{get_or, cond, refl, sym, ◌∙◌, ap, subst, arith}
use Rattle.std.specs.Prelude.{Option, None, Some}
use Rattle.std.specs.List.{filter, find, list_all, slice_get, All, AllWithin, AllPairs}
use Rattle.std.specs.List.Sorted.{IsPermutation, IsSortedBy, IsStableBy, ties}
use Rattle.std.specs.Cmp.{IsStrictWeakOrder}
use Rattle.std.proofs.lemmas.List.Elements.{filter_passes, All-filter, All-cons}
use Rattle.std.proofs.lemmas.List.Sums.{AllPass-from_list_all, list_all-from_AllPass}
use Rattle.std.proofs.lemmas.List.Kept.{AllPairs-filter}
use Rattle.std.proofs.lemmas.List.Sorted.{IsPermutation-sym, All-permutation, sorted_far}
use Rattle.std.specs.List.{AllZip}
use Rattle.std.specs.List.Sorted.{IsPartitionedBy}
use Rattle.std.specs.Option.{option_and_then, option_cmp}
use Rattle.std.specs.Str.{bytes_eq}
use Rattle.std.specs.declared.cmp.Ordering.{Ordering}
use Rattle.std.specs.declared.cmp.Ordering.TheVariants.{Less, Equal, Greater}
use Rattle.std.specs.Ordering.{is_lt, is_le, is_gt, is_eq, ordering_then, ordering_reverse}
use Rattle.std.proofs.lemmas.Cmp.{upto}
use Rattle.std.proofs.lemmas.Bool.{true_from_ne_false}
use Rattle.scip_records.specs.declared.records.Occurrence.{Occurrence}
use Rattle.scip_query.specs.declared.position.Position.{Position}
use Rattle.scip_query.specs.Positions.{position_cmp, start_of, end_of}
use Rattle.scip_query.specs.OccurrenceAt.{stands_at, innermost_cmp, innermost_of}
use Rattle.scip_query.specs.Tables.{numbers, IsTable}
use Rattle.scip_query.specs.Tables.Searches.{is_behind, starts_behind, stands_or_not, stands_listed, inner_cmp}
use Rattle.scip_query.proofs.RunLemmas.{all_fail, none_pass, find_first, filter_swap}
use Rattle.scip_query.proofs.TableLemmas.{positions_total, inner_ranks}
use Rattle.scip_query.proofs.TableZipLemmas.{numbers_stand, zip_filter, zip_all, zip_find}

not_true : (b : Bool) → (b ≡ true → b ≡ false) → b ≡ false
not_true true h = h refl
not_true false h = refl

pub filter_alike : {X : Type 0} (p q : X → Bool) (xs : List X) → All (λ x. p x ≡ q x) xs → filter p xs ≡ filter q xs
filter_alike p q [] all = refl
filter_alike p q (x ∷ xs) all =
    ap (λ b. cond b (x ∷ filter p xs) (filter p xs)) (all zero x (omega arith))
    ∙ ap (λ l. cond (q x) (x ∷ l) l) (filter_alike p q xs (λ k d h. all (suc k) d (omega arith)))

-- what holds of those that a filter keeps, holds of each that passes
all_passing : {X : Type 0} (p : X → Bool) (P : X → Type 0) (xs : List X) → All P (filter p xs)
    → All (λ x. p x ≡ true → P x) xs
all_passing p P [] all = λ k d h. absurd (omega arith)
all_passing p P (x ∷ xs) all = by (all_passing p P xs) (p x) refl where
  by : (All P (filter p xs) → All (λ y. p y ≡ true → P y) xs) → (b : Bool) → p x ≡ b
      → All (λ y. p y ≡ true → P y) (x ∷ xs)
  by rest true passes =
      let kept : All P (x ∷ filter p xs) = rw passes at all in
      All-cons (λ y. p y ≡ true → P y) x xs (λ e. kept zero x (omega arith))
      (rest (λ k d h. kept (suc k) d (omega arith)))
  by rest false fails =
      All-cons (λ y. p y ≡ true → P y) x xs (λ e. let clash : true ≡ false = sym e ∙ fails in absurd cc)
      (rest (rw fails at all))

-- and so of those that it keeps of a list with the same elements
pub all_kept : {X : Type 0} (p : X → Bool) (P : X → Type 0) (xs ys : List X) → IsPermutation ys xs → All P (filter p xs)
    → All P (filter p ys)
all_kept p P xs ys moved all k d h =
    All-filter p (λ x. p x ≡ true → P x) ys
    (All-permutation (λ x. p x ≡ true → P x) xs ys (IsPermutation-sym ys xs moved) (all_passing p P xs all)) k d h
    (filter_passes p ys k d h)

-- where those at the front fail a test, it finds the same behind them
pub find_behind : {X : Type 0} (p : X → Bool) (xs : List X) (from : ℕ) → AllWithin (λ x. p x ≡ false) xs 0 from
    → find p (drop from xs) ≡ find p xs
find_behind p xs zero fails = refl
find_behind p [] (suc from) fails = refl
find_behind p (x ∷ xs) (suc from) fails =
    rw (fails zero x (omega arith) (omega arith))
    (find_behind p xs from (λ k d low high. fails (suc k) d (omega arith) (omega arith)))

module _ {N : Type 0} (lt : N → N → Bool) (w : IsStrictWeakOrder lt) where
  -- none of these is less
  abbrev pub is_least : List N → N → Bool
  is_least others x = list_all (λ other. not (lt other x)) others

  itself : (x : N) → lt x x ≡ false
  itself x = not_true (lt x x) (w.one_way x x)

  least_first : (xs rest : List N) (t : N → Bool) (h : N) → IsSortedBy lt xs → filter t xs ≡ h ∷ rest
      → All (λ y. lt y h ≡ false) (filter t xs)
  least_first xs rest t h sorted first =
      let rising : AllPairs (λ a b. lt b a ≡ false) (h ∷ rest) =
      subst (AllPairs (λ a b. lt b a ≡ false)) first
      (AllPairs-filter (λ a b. lt b a ≡ false) t xs
      (λ i j d before inside. sorted_far lt w xs sorted i j d (omega arith) inside)) in
      subst (All (λ y. lt y h ≡ false)) (sym first)
      (All-cons (λ y. lt y h ≡ false) h rest (itself h)
      (λ k d inside. rising zero (suc k) d (omega arith) (omega arith)))

  -- among these, of which none is less than one that ties the first, those than which none is less are those that tie
  -- it
  least_ties : (ys rest : List N) (h : N) → All (λ y. lt y h ≡ false) ys → filter (ties lt h) ys ≡ h ∷ rest
      → All (λ y. is_least ys y ≡ ties lt h y) ys
  least_ties ys rest h none_less tying k d inside = by (lt h y) refl where
    y : N
    y = get_or ys k d

    by : (b : Bool) → lt h y ≡ b → is_least ys y ≡ ties lt h y
    by false level =
        let all : is_least ys y ≡ true =
        list_all-from_AllPass (λ other. not (lt other y)) ys
        (λ i e in_ys. ap not (w.chain (get_or ys i e) h y (none_less i e in_ys) level)) in
        all ∙ sym (ap (λ b. not b && not (lt y h)) level ∙ ap not (none_less k d inside))
    by true less =
        let not_all : is_least ys y ≡ false =
        not_true (is_least ys y) (λ every.
        let kept : All (λ other. not (lt other y) ≡ true) (h ∷ rest) =
        subst (All (λ other. not (lt other y) ≡ true)) tying
        (All-filter (ties lt h) (λ other. not (lt other y) ≡ true) ys
        (AllPass-from_list_all (λ other. not (lt other y)) ys every)) in
        let clash : false ≡ true = sym (ap not less) ∙ kept zero h (omega arith) in absurd cc) in
        not_all ∙ sym (ap (λ b. not b && not (lt y h)) less)

  -- the first in a table that passes is, of those that pass, the first listed than which none is less
  pub first_is_least : (all xs : List N) → IsPermutation all xs → IsSortedBy lt xs → IsStableBy lt all xs
      → (t : N → Bool)
      → find t xs ≡ find (is_least (filter t all)) (filter t all)
  first_is_least all xs moved sorted stable t = by (filter t xs) refl where
    by : (l : List N) → filter t xs ≡ l → find t xs ≡ find (is_least (filter t all)) (filter t all)
    by [] none =
        let empty : filter t all ≡ [] =
        all_fail t all (All-permutation (λ x. t x ≡ false) xs all (IsPermutation-sym all xs moved)
        (none_pass t xs none)) in
        find_first t xs ∙ ap (λ l. slice_get l 0) none ∙ sym (ap (λ l. find (is_least (filter t all)) l) empty)
    by (h ∷ rest) first =
        let none_less : All (λ y. lt y h ≡ false) (filter t all) =
        all_kept t (λ y. lt y h ≡ false) xs all moved (least_first xs rest t h sorted first) in
        let tying : filter (ties lt h) (filter t all) ≡ h ∷ filter (ties lt h) rest =
        filter_swap (ties lt h) t all ∙ ap (filter t) (sym (stable h)) ∙ filter_swap t (ties lt h) xs
        ∙ ap (filter (ties lt h)) first
        ∙ ap (λ b. cond (not b && not b) (h ∷ filter (ties lt h) rest) (filter (ties lt h) rest)) (itself h) in
        find_first t xs ∙ ap (λ l. slice_get l 0) first
        ∙ sym (find_first (is_least (filter t all)) (filter t all)
        ∙ ap (λ l. slice_get l 0)
        (filter_alike (is_least (filter t all)) (ties lt h) (filter t all)
        (least_ties (filter t all) (filter (ties lt h) rest) h none_less tying) ∙ tying))

-- ---- an occurrence at a position

not_there : (r : Ordering) (a b c : Bool) → is_gt r ≡ true → (a && ((is_le r && b) || (is_eq r && c))) ≡ false
not_there Less a b c behind = cc
not_there Equal a b c behind = cc
not_there Greater true b c behind = refl
not_there Greater false b c behind = refl

pub behind_fails : (occurrences : List Occurrence) (p : Position) (n : ℕ) → starts_behind occurrences p n ≡ true
    → stands_listed occurrences p n ≡ false
behind_fails occurrences p n behind = by (slice_get occurrences n) behind where
  by : (o : Option Occurrence) → is_behind p o ≡ true → stands_or_not p o ≡ false
  by None e = refl
  by (Some o) e = not_there (position_cmp (start_of o.range) p) (not (bytes_eq o.symbol []))
      (is_lt (position_cmp p (end_of o.range))) (is_eq (position_cmp p (end_of o.range))) e

first_not_less : (r s : Ordering) → is_lt (ordering_then r s) ≡ false → is_lt r ≡ false
first_not_less Less s e = e
first_not_less Equal s e = refl
first_not_less Greater s e = refl

turned_not_more : (r : Ordering) → is_lt r ≡ false → is_gt (ordering_reverse r) ≡ false
turned_not_more Less e = cc
turned_not_more Equal e = refl
turned_not_more Greater e = refl

-- what starts behind a position stands before what doesn't
pub behind_partitioned : (occurrences : List Occurrence) (p : Position) (table : List ℕ)
    → IsSortedBy (λ a b. is_lt (inner_cmp occurrences a b)) table
    → IsPartitionedBy (starts_behind occurrences p) table
behind_partitioned occurrences p table sorted i j d before inside behind =
    by (slice_get occurrences (get_or table i d)) (slice_get occurrences (get_or table j d))
    (sorted_far (λ a b. is_lt (inner_cmp occurrences a b)) (inner_ranks occurrences) table sorted i j d before inside)
    behind where
      by : (x y : Option Occurrence) → is_lt (option_cmp innermost_cmp y x) ≡ false → is_behind p y ≡ true
          → is_behind p x ≡ true
      by None y level e = refl
      by (Some x) None level e = cc
      by (Some x) (Some y) level e =
          let sx = start_of x.range in
          let sy = start_of y.range in
          let later : is_lt (position_cmp sx sy) ≡ false = first_not_less (position_cmp sx sy) _ level in
          let turned : is_gt (position_cmp sy sx) ≡ false =
          ap is_gt (positions_total.antisymm sy sx) ∙ turned_not_more (position_cmp sx sy) later in
          true_from_ne_false (is_gt (position_cmp sx p))
          (λ within. let clash : true ≡ false = sym e ∙ upto positions_total sy sx p turned within in cc)

-- what a search in the table finds
pub found_in_table : (occurrences : List Occurrence) (p : Position) (table : List ℕ) (from : ℕ)
    → IsTable (inner_cmp occurrences) (numbers (length occurrences)) table
    → AllWithin (λ n. starts_behind occurrences p n ≡ true) table 0 from
    → option_and_then (slice_get occurrences) (find (stands_listed occurrences p) (drop from table))
    ≡ innermost_of (filter (stands_at p) occurrences)
found_in_table occurrences p table from is behind =
    let all : List ℕ = numbers (length occurrences) in
    let t : ℕ → Bool = stands_listed occurrences p in
    let lt : ℕ → ℕ → Bool = λ a b. is_lt (inner_cmp occurrences a b) in
    let standing : List Occurrence = filter (stands_at p) occurrences in
    let R : ℕ → Occurrence → Type 0 = λ n o. slice_get occurrences n ≡ Some o in
    let zipped : AllZip R (filter t all) standing =
    zip_filter R t (stands_at p) (λ n o named. ap (stands_or_not p) named) all occurrences (numbers_stand occurrences)
    in
    let alike : (n : ℕ) (o : Occurrence) → slice_get occurrences n ≡ Some o
    → is_least lt (inner_ranks occurrences) (filter t all) n
    ≡ list_all (λ other. not (is_lt (innermost_cmp other o))) standing =
    λ n o named. zip_all R (λ m. not (lt m n)) (λ other. not (is_lt (innermost_cmp other o)))
    (λ m x other_named. ap (λ (v : Option Occurrence). not
    (is_lt (option_cmp innermost_cmp v (slice_get occurrences n)))) other_named
    ∙ ap (λ (v : Option Occurrence). not (is_lt (option_cmp innermost_cmp (Some x) v))) named)
    (filter t all) standing zipped in
    ap (option_and_then (slice_get occurrences))
    (find_behind t table from (λ k d low high. behind_fails occurrences p (get_or table k d) (behind k d low high))
    ∙ first_is_least lt (inner_ranks occurrences) all table is.permutation is.sorted is.stable t)
    ∙ zip_find (slice_get occurrences) (is_least lt (inner_ranks occurrences) (filter t all))
    (λ o. list_all (λ other. not (is_lt (innermost_cmp other o))) standing) alike (filter t all) standing zipped
