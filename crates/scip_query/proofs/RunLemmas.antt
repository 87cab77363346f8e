-- A run of a table: what compares as equal, which stands together where the table rises.
use Rattle.std.proofs.Common.{◌≡◌, ℕ, zero, suc, ◌+◌, ◌-◌, ◌≤◌, ◌<◌, Bool, true, false, not, ◌&&◌, List, [], ◌∷◌}
use Rattle.std.proofs.Common.{length, take, drop, get_or, refl, sym, ◌∙◌, ap, subst, arith}
use Rattle.std.specs.List.{filter, find, slice_get, All, AllWithin}
use Rattle.std.specs.List.Sorted.{IsPermutation, IsSortedBy, IsStableBy, ties, IsPartitionedBy, IsPartitionPoint}
use Rattle.std.specs.List.Sorted.{IsNonDecreasingBy}
use Rattle.std.specs.Fn.{AlwaysReturns, Called, Mut}
use Rattle.std.specs.declared.cmp.Ordering.{Ordering}
use Rattle.std.specs.declared.cmp.Ordering.TheVariants.{Less, Equal, Greater}
use Rattle.std.specs.Ordering.{nat_cmp, is_lt, is_gt, is_eq, ordering_reverse, ordering_index}
use Rattle.std.proofs.lemmas.Cmp.{nat_cmp_total}
use Rattle.std.proofs.lemmas.Bool.Decides.{nat_tests}
use Rattle.std.specs.Cmp.{IsTotalOrder}
use Rattle.std.proofs.lemmas.List.{get_or-drop, get_or-take, length-drop, length-take-le}
use Rattle.std.proofs.lemmas.List.Elements.{filter_passes, All-cons}
use Rattle.std.proofs.lemmas.List.Sorted.{ranks_by, sorted_far, All-permutation}
use Rattle.std.proofs.lemmas.Bool.{true_from_ne_false}
use Rattle.scip_query.specs.Tables.Runs.{Rises}

not_below : (a b : ℕ) → b ≤ a → is_lt (nat_cmp a b) ≡ false
not_below a b h = grind (arith, nat_tests)

pub equal_is : (r : Ordering) → is_eq r ≡ true → r ≡ Equal
equal_is Less e = cc
equal_is Equal e = refl
equal_is Greater e = cc

less_not_equal : (r : Ordering) → is_lt r ≡ true → is_eq r ≡ false
less_not_equal Less e = refl
less_not_equal Equal e = cc
less_not_equal Greater e = cc

gt_reversed : (r : Ordering) → is_gt (ordering_reverse r) ≡ is_lt r
gt_reversed Less = refl
gt_reversed Equal = refl
gt_reversed Greater = refl

index_below : (a b : Ordering) → (is_lt b ≡ true → is_lt a ≡ true) → (is_eq b ≡ true → is_gt a ≡ false)
    → ordering_index a ≤ ordering_index b
index_below Less b less equal = omega arith
index_below Equal Less less equal = let clash : false ≡ true = less refl in cc
index_below Equal Equal less equal = omega arith
index_below Equal Greater less equal = omega arith
index_below Greater Less less equal = let clash : false ≡ true = less refl in cc
index_below Greater Equal less equal = let clash : true ≡ false = equal refl in cc
index_below Greater Greater less equal = omega arith

less_below : (a b : Ordering) → ordering_index a ≤ ordering_index b → is_lt b ≡ true → is_lt a ≡ true
less_below Less b le less = refl
less_below Equal Less le less = absurd (omega (arith, le))
less_below Equal Equal le less = cc
less_below Equal Greater le less = cc
less_below Greater Less le less = absurd (omega (arith, le))
less_below Greater Equal le less = cc
less_below Greater Greater le less = cc

equal_below : (a b : Ordering) → ordering_index a ≤ ordering_index b → is_lt a ≡ false → is_eq b ≡ true → is_eq a ≡ true
equal_below Less b le not_less equal = cc
equal_below Equal b le not_less equal = refl
equal_below Greater Less le not_less equal = cc
equal_below Greater Equal le not_less equal = absurd (omega (arith, le))
equal_below Greater Greater le not_less equal = cc

tied : (r : Ordering) → (not (is_lt r) && not (is_lt (ordering_reverse r))) ≡ is_eq (ordering_reverse r)
tied Less = refl
tied Equal = refl
tied Greater = refl

-- of a list whose elements fail a test, then pass it, and then fail it again, those in the middle pass
pub filter_run : {X : Type 0} (p : X → Bool) (xs : List X) (from n : ℕ) → AllWithin (λ y. p y ≡ false) xs 0 from
    → AllWithin (λ y. p y ≡ true) (drop from xs) 0 n
    → AllWithin (λ y. p y ≡ false) (drop from xs) n (length (drop from xs))
    → filter p xs ≡ take n (drop from xs)
filter_run p [] zero zero before within behind = refl
filter_run p [] zero (suc n) before within behind = refl
filter_run p [] (suc from) zero before within behind = refl
filter_run p [] (suc from) (suc n) before within behind = refl
filter_run p (x ∷ xs) (suc from) n before within behind =
    rw (before zero x (omega arith) (omega arith))
    (filter_run p xs from n (λ k d low high. before (suc k) d (omega arith) (omega arith)) within behind)
filter_run p (x ∷ xs) zero (suc n) before within behind =
    rw (within zero x (omega arith) (omega arith))
    (ap (λ l. x ∷ l) (filter_run p xs zero n (λ k d low high. absurd (omega arith))
    (λ k d low high. within (suc k) d (omega arith) (omega arith))
    (λ k d low high. behind (suc k) d (omega arith) (omega arith))))
filter_run p (x ∷ xs) zero zero before within behind =
    rw (behind zero x (omega arith) (omega arith))
    (filter_run p xs zero zero (λ k d low high. absurd (omega arith)) (λ k d low high. absurd (omega arith))
    (λ k d low high. behind (suc k) d (omega arith) (omega arith)))

-- a filter that keeps nothing
pub all_fail : {X : Type 0} (p : X → Bool) (xs : List X) → All (λ x. p x ≡ false) xs → filter p xs ≡ []
all_fail p [] all = refl
all_fail p (x ∷ xs) all = rw (all zero x (omega arith)) (all_fail p xs (λ k d h. all (suc k) d (omega arith)))

pub none_pass : {X : Type 0} (p : X → Bool) (xs : List X) → filter p xs ≡ [] → All (λ x. p x ≡ false) xs
none_pass p [] e = λ k d h. absurd (omega arith)
none_pass p (x ∷ xs) e = by (none_pass p xs) (p x) refl where
  by : (filter p xs ≡ [] → All (λ y. p y ≡ false) xs) → (b : Bool) → p x ≡ b → All (λ y. p y ≡ false) (x ∷ xs)
  by rest true passes = let kept : x ∷ filter p xs ≡ [] = rw passes at e in absurd cc
  by rest false fails = All-cons (λ y. p y ≡ false) x xs fails (rest (rw fails at e))

-- the first that passes is the first of those that pass
pub find_first : {X : Type 0} (p : X → Bool) (xs : List X) → find p xs ≡ slice_get (filter p xs) 0
find_first p [] = refl
find_first p (x ∷ xs) = by (find_first p xs) (p x) refl where
  by : find p xs ≡ slice_get (filter p xs) 0 → (b : Bool) → p x ≡ b → find p (x ∷ xs) ≡ slice_get (filter p (x ∷ xs)) 0
  by rest true passes = rw passes refl
  by rest false fails = rw fails rest

pub filter_swap : {X : Type 0} (p q : X → Bool) (xs : List X) → filter p (filter q xs) ≡ filter q (filter p xs)
filter_swap p q [] = refl
filter_swap p q (x ∷ xs) = by (filter_swap p q xs) (p x) refl (q x) refl where
  by : filter p (filter q xs) ≡ filter q (filter p xs) → (a : Bool) → p x ≡ a → (b : Bool) → q x ≡ b
      → filter p (filter q (x ∷ xs)) ≡ filter q (filter p (x ∷ xs))
  by rest true e true f = rw (e, f, e) (ap (λ l. x ∷ l) rest)
  by rest true e false f = rw (e, f) rest
  by rest false e true f = rw (e, f, e) rest
  by rest false e false f = rw (e, f) rest

-- ---- the first few of a list

pub length-few : {X : Type 0} (k : ℕ) (xs : List X) → length (take k xs) ≤ length xs
length-few zero xs = omega arith
length-few (suc k) [] = omega arith
length-few (suc k) (x ∷ xs) = omega (arith, length-few k xs)

pub most-few : {X : Type 0} (k : ℕ) (xs : List X) → length (take k xs) ≤ k
most-few zero xs = omega arith
most-few (suc k) [] = omega arith
most-few (suc k) (x ∷ xs) = omega (arith, most-few k xs)

within_few : {X : Type 0} (k : ℕ) (xs : List X) (j : ℕ) → j < k → j < length xs → j < length (take k xs)
within_few zero xs j few inside = absurd (omega (arith, few))
within_few (suc k) [] j few inside = absurd (omega (arith, inside))
within_few (suc k) (x ∷ xs) zero few inside = omega arith
within_few (suc k) (x ∷ xs) (suc j) few inside =
    omega (arith, within_few k xs j (omega (arith, few)) (omega (arith, inside)))

few_within : {X : Type 0} (k : ℕ) (xs : List X) (j : ℕ) → j < length (take k xs) → (j < k) × (j < length xs)
few_within zero xs j inside = absurd (omega (arith, inside))
few_within (suc k) [] j inside = absurd (omega (arith, inside))
few_within (suc k) (x ∷ xs) zero inside = (omega arith, omega arith)
few_within (suc k) (x ∷ xs) (suc j) inside =
    let two = few_within k xs j (omega (arith, inside)) in (omega (arith, two.0), omega (arith, two.1))

pub parted_take : {X : Type 0} (p : X → Bool) (k : ℕ) (xs : List X) → IsPartitionedBy p xs
    → IsPartitionedBy p (take k xs)
parted_take p k xs parted i j d before inside passes =
    let two = few_within k xs j inside in
    rw (get_or-take k xs i d (omega (arith, before, two.0)))
    (parted i j d before two.1 (subst (λ x. p x ≡ true) (get_or-take k xs j d two.0) passes))

pub parted_drop : {X : Type 0} (p : X → Bool) (k : ℕ) (xs : List X) → IsPartitionedBy p xs
    → IsPartitionedBy p (drop k xs)
parted_drop p k xs parted i j d before inside passes =
    rw (get_or-drop k xs i d)
    (parted (k + i) (k + j) d (omega (arith, before)) (omega (arith, inside, length-drop k xs))
    (subst (λ x. p x ≡ true) (get_or-drop k xs j d) passes))

-- where they end among the first few, they end in all
pub near_point : {X : Type 0} (p : X → Bool) (k : ℕ) (xs : List X) (n : ℕ) → IsPartitionedBy p xs
    → IsPartitionPoint (λ x. p x ≡ true) (λ x. p x ≡ false) (take k xs) n → n < k
    → IsPartitionPoint (λ x. p x ≡ true) (λ x. p x ≡ false) xs n
near_point {X = X} p k xs n parted point few = (before, behind)
  where
    before : AllWithin (λ x. p x ≡ true) xs 0 n
    before j d low high =
        subst (λ x. p x ≡ true) (get_or-take k xs j d (omega (arith, high, few))) (point.0 j d low high)

    fails : (d : X) → n < length xs → p (get_or xs n d) ≡ false
    fails d inside =
        subst (λ x. p x ≡ false) (get_or-take k xs n d few)
        (point.1 n d (omega arith) (within_few k xs n few inside))

    behind : AllWithin (λ x. p x ≡ false) xs n (length xs)
    behind j d low high = by (p (get_or xs j d)) refl
      where
        by : (b : Bool) → p (get_or xs j d) ≡ b → p (get_or xs j d) ≡ false
        by true e =
            let first : p (get_or xs n d) ≡ true = parted n j d low high e in
            let clash : true ≡ false = sym first ∙ fails d (omega (arith, low, high)) in absurd cc
        by false e = e

-- a filter that keeps none of the first
pub filter_behind : {X : Type 0} (p : X → Bool) (k : ℕ) (xs : List X) → AllWithin (λ x. p x ≡ false) xs 0 k
    → filter p xs ≡ filter p (drop k xs)
filter_behind p zero xs fail = refl
filter_behind p (suc k) [] fail = refl
filter_behind p (suc k) (x ∷ xs) fail =
    rw (fail zero x (omega arith) (omega arith))
    (filter_behind p k xs (λ j d low high. fail (suc j) d (omega arith) (omega (arith, high))))

-- what one call answers
pub answer_of : {F X R : Type 0} (g : Mut F X R) (P : X → R → Type 0) (f : F) (a : X) (r : R) (f' : F)
    → Called g f a r f' → AlwaysReturns g P f → P a r
answer_of g P f a r f' call always = (always.at (a ∷ []) r f' call).0

module _ {N : Type 0} (to : N → Ordering) (xs : List N) (rises : Rises to xs) where
  pub less_first : IsPartitionedBy (λ n. is_lt (to n)) xs
  less_first i j d before inside less =
      less_below (to (get_or xs i d)) (to (get_or xs j d)) (rises i j d before inside) less

  -- behind the lesser ones the equal ones come first
  pub equal_first : (from : ℕ) → AllWithin (λ n. is_lt (to n) ≡ false) xs from (length xs)
      → IsPartitionedBy (λ n. is_eq (to n)) (drop from xs)
  equal_first from least i j d before inside equal =
      rw (get_or-drop from xs i d)
      (equal_below (to (get_or xs (from + i) d)) (to (get_or xs (from + j) d))
      (rises (from + i) (from + j) d (omega arith) (omega (arith, length-drop from xs)))
      (least (from + i) d (omega arith) (omega (arith, length-drop from xs))) (rw (get_or-drop from xs j d) at equal))

  pub last_parted : (k m : ℕ) → IsPartitionedBy (λ n. is_lt (to n)) (drop m (take k xs))
  last_parted k m =
      parted_drop (λ n. is_lt (to n)) m (take k xs) (parted_take (λ n. is_lt (to n)) k xs less_first)

  -- where the last of the first is less, all of them are
  first_less : (k less : ℕ) → k ≤ length xs
      → AllWithin (λ n. is_lt (to n) ≡ true) (drop (length (take k xs) - 1) (take k xs)) 0 less
      → length (drop (length (take k xs) - 1) (take k xs)) ≤ less
      → AllWithin (λ n. is_eq (to n) ≡ false) xs 0 k
  first_less k less inside last all j d low high =
      let count : length (take k xs) ≡ k = length-take-le k xs inside in
      let one : 0 < length (drop (length (take k xs) - 1) (take k xs)) =
      omega (arith, length-drop (length (take k xs) - 1) (take k xs), count, high) in
      let there : get_or (drop (length (take k xs) - 1) (take k xs)) 0 d ≡ get_or xs (k - 1) d =
      get_or-drop (length (take k xs) - 1) (take k xs) 0 d
      ∙ ap (λ at. get_or (take k xs) at d) (omega (arith, count, high))
      ∙ get_or-take k xs (k - 1) d (omega (arith, high)) in
      let last_less : is_lt (to (get_or xs (k - 1) d)) ≡ true =
      subst (λ n. is_lt (to n) ≡ true) there (last 0 d (omega arith) (omega (arith, one, all))) in
      less_not_equal (to (get_or xs j d))
      (less_first j (k - 1) d (omega (arith, high)) (omega (arith, high, inside)) last_less)

  pub near_behind : (k less : ℕ) → k ≤ length xs
      → IsPartitionPoint (λ n. is_lt (to n) ≡ true) (λ n. is_lt (to n) ≡ false)
      (drop (length (take k xs) - 1) (take k xs)) less
      → length (drop (length (take k xs) - 1) (take k xs)) ≤ less
      → filter (λ n. is_eq (to n)) xs ≡ filter (λ n. is_eq (to n)) (drop k xs)
  near_behind k less inside point all =
      filter_behind (λ n. is_eq (to n)) k xs (first_less k less inside point.0 all)

  -- the others rise, too
  pub rises_behind : (k : ℕ) → Rises to (drop k xs)
  rises_behind k i j d before inside =
      rw (get_or-drop k xs i d, get_or-drop k xs j d)
      (rises (k + i) (k + j) d (omega (arith, before)) (omega (arith, inside, length-drop k xs)))

  pub is_run : (from n : ℕ) → IsPartitionPoint (λ m. is_lt (to m) ≡ true) (λ m. is_lt (to m) ≡ false) xs from
      → IsPartitionPoint (λ m. is_eq (to m) ≡ true) (λ m. is_eq (to m) ≡ false) (drop from xs) n
      → filter (λ m. is_eq (to m)) xs ≡ take n (drop from xs)
  is_run from n split equal =
      filter_run (λ m. is_eq (to m)) xs from n
      (λ k d low high. less_not_equal (to (get_or xs k d)) (split.0 k d low high)) equal.0 equal.1

module _ {N K : Type 0} {R : K → K → Ordering} (o : IsTotalOrder R) (key : N → K) where
  abbrev pub below : N → N → Bool
  below a b = is_lt (R (key a) (key b))

  -- a table in the order of the keys rises as they compare to one
  pub sorted_rises : (xs : List N) → IsSortedBy below xs → (s : K) → Rises (λ n. R (key n) s) xs
  sorted_rises xs sorted s i j d before inside =
      let a = key (get_or xs i d) in
      let b = key (get_or xs j d) in
      let later : is_lt (R b a) ≡ false = sorted_far below (ranks_by o key) xs sorted i j d before inside in
      index_below (R a s) (R b s)
      (λ less. true_from_ne_false (is_lt (R a s))
      (λ e. let clash : true ≡ false = sym less ∙ (ranks_by o (λ (k : K). k)).chain b a s later e in cc))
      (λ equal. ap is_gt (o.antisymm a s) ∙ gt_reversed (R s a)
      ∙ ap is_lt (sym (o.congr b s a (equal_is (R b s) equal))) ∙ later)

  abbrev pub has : K → N → Bool
  has s m = is_eq (R (key m) s)

  -- who ties with one that has a key has it, too
  pub tie : (s : K) (x : N) → has s x ≡ true → (m : N) → ties below x m ≡ has s m
  tie s x passes m =
      let one : R (key x) (key m) ≡ R s (key m) = o.congr (key x) s (key m) (equal_is (R (key x) s) passes) in
      let other : R (key m) (key x) ≡ ordering_reverse (R (key x) (key m)) = o.antisymm (key m) (key x) in
      let turned : R (key m) s ≡ ordering_reverse (R s (key m)) = o.antisymm (key m) s in
      ap (λ r. not (is_lt (R (key x) (key m))) && not (is_lt r)) other ∙ tied (R (key x) (key m))
      ∙ ap (λ r. is_eq (ordering_reverse r)) one ∙ ap is_eq (sym turned)

  -- a table keeps the order of those with a key
  pub kept_order : (all xs : List N) → IsPermutation all xs → IsStableBy below all xs → (s : K)
      → filter (has s) xs ≡ filter (has s) all
  kept_order all xs permutation stable s = by (filter (has s) all) refl where
    by : (l : List N) → filter (has s) all ≡ l → filter (has s) xs ≡ filter (has s) all
    by [] none = all_fail (has s) xs
        (All-permutation (λ m. has s m ≡ false) all xs permutation (none_pass (has s) all none)) ∙ sym none
    by (x ∷ rest) some =
        let passes : has s x ≡ true =
        subst (All (λ m. has s m ≡ true)) some (filter_passes (has s) all) zero x (omega arith) in
        (λ i. filter (λ m. sym (tie s x passes m) i) xs) ∙ stable x ∙ (λ i. filter (λ m. tie s x passes m i) all)

pub nondecreasing_rises : {N : Type 0} (key : N → ℕ) (xs : List N) → IsNonDecreasingBy key xs → (s : ℕ)
    → Rises (λ n. nat_cmp (key n) s) xs
nondecreasing_rises key xs rising s =
    sorted_rises nat_cmp_total key xs
    (λ k d low high. not_below (key (get_or xs (k + 1) d)) (key (get_or xs k d))
    (rising k (k + 1) d (omega arith) high)) s
