-- A list has one order that is sorted and keeps the order of what compares as equal.
use Rattle.std.proofs.Common.{◌≡◌, ℕ, zero, suc, ◌≤◌, ◌<◌, Bool, true, false, not, List, [], ◌∷◌, length, get_or}
use Rattle.std.proofs.Common.{map, cond, refl, sym, ◌∙◌, ap, arith}
use Rattle.std.specs.Cmp.{IsTotalOrder, IsStrictWeakOrder}
use Rattle.std.specs.List.{filter}
use Rattle.std.specs.List.Sorted.{IsSortedBy, IsStableBy, ties}
use Rattle.std.specs.declared.cmp.Ordering.{Ordering}
use Rattle.std.specs.Ordering.{is_lt}
use Rattle.std.proofs.lemmas.Bool.{and_parts}
use Rattle.std.proofs.lemmas.List.Sorted.{ranks_by, sorted_far}
use Rattle.scip_query.specs.Sorting.{with_sorted, sorted_by}

module _ {X : Type 0} (cmp : X → X → Ordering) where
  abbrev below : X → X → Bool
  below x y = is_lt (cmp x y)

  abbrev IsLeast : X → List X → Type 0
  IsLeast x [] = Unit {0}
  IsLeast x (y ∷ ys) = (below y x ≡ false) × IsLeast x ys

  abbrev Ascends : List X → Type 0
  Ascends [] = Unit {0}
  Ascends (x ∷ xs) = IsLeast x xs × Ascends xs

  -- ---- what is sorted ascends

  least_at : (x : X) (ys : List X) → ((j : ℕ) (d : X) → j < length ys → below (get_or ys j d) x ≡ false) → IsLeast x ys
  least_at x [] h = tt
  least_at x (y ∷ ys) h = (h zero y (omega arith), least_at x ys (λ j d inside. h (suc j) d (omega arith)))

  ascends_at : (xs : List X)
      → ((i j : ℕ) (d : X) → i ≤ j → j < length xs → below (get_or xs j d) (get_or xs i d) ≡ false) → Ascends xs
  ascends_at [] h = tt
  ascends_at (x ∷ xs) h = (
    least_at x xs (λ j d inside. h zero (suc j) d (omega arith) (omega arith)),
    ascends_at xs (λ i j d before inside. h (suc i) (suc j) d (omega arith) (omega arith)),
  )

  module _ (o : IsStrictWeakOrder below) where
    ascends_sorted : (xs : List X) → IsSortedBy below xs → Ascends xs
    ascends_sorted xs sorted = ascends_at xs (λ i j d before inside. sorted_far below o xs sorted i j d before inside)

    least_below : (x y : X) (ys : List X) → below y x ≡ false → IsLeast y ys → IsLeast x ys
    least_below x y [] le least = tt
    least_below x y (z ∷ ys) le least = (o.chain z y x least.0 le, least_below x y ys le least.1)

    -- ---- with one more

    least_with : (x new : X) (ys : List X) → below new x ≡ false → IsLeast x ys → IsLeast x (with_sorted cmp new ys)
    least_with x new [] le least = (le, tt)
    least_with x new (y ∷ ys) le least = by (below y new) (least_with x new ys le least.1) where
      by : (b : Bool) → IsLeast x (with_sorted cmp new ys)
          → IsLeast x (cond b (y ∷ with_sorted cmp new ys) (new ∷ y ∷ ys))
      by true rest = (least.0, rest)
      by false rest = (le, least)

    ascends_with : (new : X) (ys : List X) → Ascends ys → Ascends (with_sorted cmp new ys)
    ascends_with new [] up = (tt, tt)
    ascends_with new (y ∷ ys) up = by (below y new) refl (ascends_with new ys up.1) where
      by : (b : Bool) → below y new ≡ b → Ascends (with_sorted cmp new ys)
          → Ascends (cond b (y ∷ with_sorted cmp new ys) (new ∷ y ∷ ys))
      by true less rest = (least_with y new ys (o.one_way y new less) up.0, rest)
      by false most rest = ((most, least_below new y ys most up.0), up)

    ascends_by : (xs : List X) → Ascends (sorted_by cmp xs)
    ascends_by [] = tt
    ascends_by (x ∷ xs) = ascends_with x (sorted_by cmp xs) (ascends_by xs)

    -- ---- what ties

    itself : (x : X) → below x x ≡ false
    itself x = by (below x x) refl where
      by : (b : Bool) → below x x ≡ b → below x x ≡ false
      by true less = o.one_way x x less
      by false most = most

    not_true : (b : Bool) → not b ≡ true → b ≡ false
    not_true true e = cc
    not_true false e = refl

    tied : (x y : X) → ties below x y ≡ true → (below x y ≡ false) × (below y x ≡ false)
    tied x y e =
        let two = and_parts (not (below x y)) (not (below y x)) e in
        (not_true (below x y) two.0, not_true (below y x) two.1)

    tie : (x y : X) → below x y ≡ false → below y x ≡ false → ties below x y ≡ true
    tie x y a b = rw (a, b) refl

    -- what ties with one of two that tie, ties with the other
    tie_on : (s x new : X) → ties below s x ≡ true → ties below s new ≡ true → below x new ≡ false
    tie_on s x new a b = o.chain x s new (tied s x a).1 (tied s new b).0

    filter_with : (s new : X) (ys : List X)
        → filter (ties below s) (with_sorted cmp new ys) ≡ filter (ties below s) (new ∷ ys)
    filter_with s new [] = refl
    filter_with s new (y ∷ ys) =
        by (below y new) refl (ties below s y) refl (ties below s new) refl (filter_with s new ys) where
          by : (b : Bool) → below y new ≡ b → (p : Bool) → ties below s y ≡ p → (q : Bool) → ties below s new ≡ q
              → filter (ties below s) (with_sorted cmp new ys) ≡ filter (ties below s) (new ∷ ys)
              → filter (ties below s) (cond b (y ∷ with_sorted cmp new ys) (new ∷ y ∷ ys))
              ≡ filter (ties below s) (new ∷ y ∷ ys)
          by false most p e q f rest = refl
          by true less true e true f rest =
              let clash : true ≡ false = sym less ∙ tie_on s y new e f in absurd cc
          by true less true e false f rest = rw (e, f) (ap (λ l. y ∷ l) (rest ∙ rw f refl))
          by true less false e q f rest = rw e rest

    filter_by : (s : X) (xs : List X) → filter (ties below s) (sorted_by cmp xs) ≡ filter (ties below s) xs
    filter_by s [] = refl
    filter_by s (x ∷ xs) =
        filter_with s x (sorted_by cmp xs)
        ∙ ap (λ l. cond (ties below s x) (x ∷ l) l) (filter_by s xs)

    -- ---- two lists that ascend, with the same ones that tie

    kept : (p : X → Bool) (y : X) (ys : List X) → p y ≡ true → filter p (y ∷ ys) ≡ y ∷ filter p ys
    kept p y ys e = ap (λ b. cond b (y ∷ filter p ys) (filter p ys)) e

    dropped : (p : X → Bool) (y : X) (ys : List X) → p y ≡ false → filter p (y ∷ ys) ≡ filter p ys
    dropped p y ys e = ap (λ b. cond b (y ∷ filter p ys) (filter p ys)) e

    -- the least is at most what ties with some element
    least_found : (x s : X) (ys : List X) (w : X) (ws : List X) → IsLeast x ys → filter (ties below s) ys ≡ w ∷ ws
        → below s x ≡ false
    least_found x s [] w ws least e = absurd cc
    least_found x s (y ∷ ys) w ws least e = by (ties below s y) refl (least_found x s ys w ws least.1) where
      by : (b : Bool) → ties below s y ≡ b → (filter (ties below s) ys ≡ w ∷ ws → below s x ≡ false)
          → below s x ≡ false
      by true with rest = o.chain s y x (tied s y with).0 least.0
      by false without rest = rest (sym (dropped (ties below s) y ys without) ∙ e)

    same_tied : (s : X) → ties below s s ≡ true
    same_tied s = tie s s (itself s) (itself s)

    one_order : (ys zs : List X) → Ascends ys → Ascends zs
        → ((s : X) → filter (ties below s) ys ≡ filter (ties below s) zs) → ys ≡ zs
    one_order [] [] left right same = refl
    one_order [] (z ∷ zs) left right same =
        let clash = same z ∙ kept (ties below z) z zs (same_tied z) in absurd cc
    one_order (y ∷ ys) [] left right same =
        let clash = sym (same y) ∙ kept (ties below y) y ys (same_tied y) in absurd cc
    one_order (y ∷ ys) (z ∷ zs) left right same =
        let at_y = kept (ties below y) y ys (same_tied y) in
        let at_z = kept (ties below z) z zs (same_tied z) in
        let up : below y z ≡ false =
        least_found z y (z ∷ zs) y (filter (ties below y) ys) (itself z, right.0) (sym (same y) ∙ at_y) in
        let down : below z y ≡ false =
        least_found y z (y ∷ ys) z (filter (ties below z) zs) (itself y, left.0) (same z ∙ at_z) in
        let heads : y ∷ filter (ties below y) ys ≡ z ∷ filter (ties below y) zs =
        sym at_y ∙ same y ∙ kept (ties below y) z zs (tie y z up down) in
        let head : y ≡ z = cc in
        ap (λ w. w ∷ ys) head
        ∙ ap (λ l. z ∷ l) (one_order ys zs left.1 right.1 (λ s. tails s head (ties below s y) refl (same s)))
      where
        tails : (s : X) → y ≡ z → (b : Bool) → ties below s y ≡ b
            → filter (ties below s) (y ∷ ys) ≡ filter (ties below s) (z ∷ zs)
            → filter (ties below s) ys ≡ filter (ties below s) zs
        tails s head true with e =
            let both : y ∷ filter (ties below s) ys ≡ z ∷ filter (ties below s) zs =
            sym (kept (ties below s) y ys with) ∙ e
            ∙ kept (ties below s) z zs (ap (ties below s) (sym head) ∙ with) in cc
        tails s head false without e =
            sym (dropped (ties below s) y ys without) ∙ e
            ∙ dropped (ties below s) z zs (ap (ties below s) (sym head) ∙ without)

    sorted_is : (all table : List X) → IsSortedBy below table → IsStableBy below all table → table ≡ sorted_by cmp all
    sorted_is all table sorted stable =
        one_order table (sorted_by cmp all) (ascends_sorted table sorted) (ascends_by all)
        (λ s. stable s ∙ sym (filter_by s all))

-- ---- sorted as a view shows it

module _ {A B : Type 0} (cmp : B → B → Ordering) (view : A → B) where
  abbrev viewed : A → A → Ordering
  viewed a b = cmp (view a) (view b)

  with_view : (new : A) (xs : List A)
      → map view (with_sorted viewed new xs) ≡ with_sorted cmp (view new) (map view xs)
  with_view new [] = refl
  with_view new (x ∷ xs) = by (is_lt (cmp (view x) (view new))) (with_view new xs) where
    by : (b : Bool) → map view (with_sorted viewed new xs) ≡ with_sorted cmp (view new) (map view xs)
        → map view (cond b (x ∷ with_sorted viewed new xs) (new ∷ x ∷ xs))
        ≡ cond b (view x ∷ with_sorted cmp (view new) (map view xs)) (view new ∷ view x ∷ map view xs)
    by true rest = ap (λ l. view x ∷ l) rest
    by false rest = refl

  by_view : (xs : List A) → map view (sorted_by viewed xs) ≡ sorted_by cmp (map view xs)
  by_view [] = refl
  by_view (x ∷ xs) = with_view x (sorted_by viewed xs) ∙ ap (with_sorted cmp (view x)) (by_view xs)

pub sorted_view : {A B : Type 0} (cmp : B → B → Ordering) (o : IsTotalOrder cmp) (view : A → B) (all table : List A)
    → IsSortedBy (λ a b. is_lt (cmp (view a) (view b))) table
    → IsStableBy (λ a b. is_lt (cmp (view a) (view b))) all table
    → map view table ≡ sorted_by cmp (map view all)
sorted_view cmp o view all table sorted stable =
    ap (map view) (sorted_is (λ a b. cmp (view a) (view b)) (ranks_by o view) all table sorted stable)
    ∙ by_view cmp view all
