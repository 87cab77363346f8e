-- Lists that are parts of others, and their order.
use Rattle.std.proofs.Common.{◌≡◌, ◌∙◌, ℕ, ◌+◌, ◌-◌, ◌<◌, Bool, true, false, List, [], ◌∷◌, ◌++◌, map, length, set}
use Rattle.std.proofs.Common.{slice_index_or, take, drop, refl, sym, ap, append_assoc, length-append, arith}
use Rattle.std.specs.List.{flat_map, swap}
use Rattle.std.specs.List.Sorted.{IsPermutation}
use Rattle.std.proofs.lemmas.Bool.{ltb-true, ltb-false}
use Rattle.std.proofs.lemmas.List.{drop_more, get_or-drop, get_or-map, length-drop, length-map, length-take-le, map-set}
use Rattle.std.proofs.lemmas.List.{set-get_or, set_at, set_comm, take-append-drop}
use Rattle.std.proofs.lemmas.List.Concat.{flat_map-append}
use Rattle.std.proofs.lemmas.List.Edits.{swap_is}
use Rattle.std.proofs.lemmas.List.Sorted.{IsPermutation-append_comm, IsPermutation-append_left}
use Rattle.std.proofs.lemmas.List.Sorted.{IsPermutation-append_right, IsPermutation-keeps, IsPermutation-refl}
use Rattle.std.proofs.lemmas.List.Sorted.{IsPermutation-swap, IsPermutation-trans}
use lib.Dec.{ltb}

map_swap : {X Y : Type 0} (f : X → Y) (xs : List X) (i j : ℕ) (d : X) → i < length xs → j < length xs
    → map f (swap xs i j) ≡ swap (map f xs) i j
map_swap f xs i j d a b =
    let long : length (map f xs) ≡ length xs = length-map xs f in
    rw (
      sym (swap_is xs i j d a b),
      map-set f (set xs i (slice_index_or xs j d)) j (slice_index_or xs i d),
      map-set f xs i (slice_index_or xs j d),
      sym (swap_is (map f xs) i j (f d) (rw long a) (rw long b)),
      get_or-map f xs j d (f d) b,
      get_or-map f xs i d (f d) a,
    ) refl

-- of four parts the first and the third in each other's place
turned : {B : Type 0} (p q r t : List B) → IsPermutation (p ++ (q ++ (r ++ t))) (r ++ (q ++ (p ++ t)))
turned p q r t =
    let one : IsPermutation (p ++ (q ++ r)) ((q ++ r) ++ p) = IsPermutation-append_comm p (q ++ r) in
    let two : IsPermutation ((q ++ r) ++ p) ((r ++ q) ++ p) =
    IsPermutation-append_left p _ _ (IsPermutation-append_comm q r) in
    let both = IsPermutation-append_left t _ _ (IsPermutation-trans _ _ _ one two) in
    rw (append_assoc p (q ++ r) t, append_assoc q r t) at (rw (append_assoc (r ++ q) p t, append_assoc r q (p ++ t)) at
    both)

-- two parts in each other's place
swapped_parts : {X B : Type 0} (f : X → List B) (l : List X) (i j : ℕ) (d : X) → i < j → j < length l
    → IsPermutation (flat_map f l) (flat_map f (swap l i j))
swapped_parts f l i j d a b =
    let x = slice_index_or l i d in
    let y = slice_index_or l j d in
    let front = take i l in
    let r = drop (i + 1) l in
    let long-front : length front ≡ i = length-take-le i l (omega (arith, a, b)) in
    let whole : l ≡ front ++ x ∷ r = sym (rw (sym (drop_more l i d (omega (arith, a, b)))) (take-append-drop i l)) in
    let long-r : length r ≡ length l - (i + 1) = length-drop (i + 1) l in
    let m = take (j - i - 1) r in
    let back = drop (j - i) r in
    let in-r : j - i - 1 < length r = omega (arith, a, b, long-r) in
    let jj : i + 1 + (j - i - 1) ≡ j = omega (arith, a) in
    let at-j : slice_index_or r (j - i - 1) d ≡ y = rw (get_or-drop (i + 1) l (j - i - 1) d, jj) refl in
    let long-m : length m ≡ j - i - 1 = length-take-le (j - i - 1) r (omega (arith, in-r)) in
    let past : j - i - 1 + 1 ≡ j - i = omega (arith, a) in
    let r-is : r ≡ m ++ y ∷ back =
    sym (rw (drop_more r (j - i - 1) d in-r, at-j, past) at (take-append-drop (j - i - 1) r)) in
    let once : set l i y ≡ (front ++ y ∷ m) ++ y ∷ back =
    ap (λ v. set v i y) whole ∙ set_at front x r y i long-front ∙ ap (λ v. front ++ y ∷ v) r-is
    ∙ sym (append_assoc front (y ∷ m) (y ∷ back)) in
    let long-y : length (front ++ y ∷ m) ≡ j = omega (arith, length-append front (y ∷ m), long-front, long-m, a) in
    let twice : set (set l i y) j x ≡ (front ++ y ∷ m) ++ x ∷ back =
    ap (λ v. set v j x) once ∙ set_at (front ++ y ∷ m) y back x j long-y in
    let swapped : swap l i j ≡ (front ++ y ∷ m) ++ x ∷ back = sym (swap_is l i j d (omega (arith, a, b)) b) ∙ twice in
    let l-flat : flat_map f l ≡ flat_map f front ++ (f x ++ (flat_map f m ++ (f y ++ flat_map f back))) =
    ap (flat_map f) (whole ∙ ap (λ v. front ++ x ∷ v) r-is) ∙ flat_map-append f front (x ∷ m ++ y ∷ back)
    ∙ ap (λ v. flat_map f front ++ (f x ++ v)) (flat_map-append f m (y ∷ back)) in
    let s-flat : flat_map f (swap l i j) ≡ flat_map f front ++ (f y ++ (flat_map f m ++ (f x ++ flat_map f back))) =
    ap (flat_map f) swapped ∙ flat_map-append f (front ++ y ∷ m) (x ∷ back)
    ∙ ap (λ v. v ++ (f x ++ flat_map f back)) (flat_map-append f front (y ∷ m))
    ∙ append_assoc (flat_map f front) (f y ++ flat_map f m) (f x ++ flat_map f back)
    ∙ ap (λ v. flat_map f front ++ v) (append_assoc (f y) (flat_map f m) (f x ++ flat_map f back)) in
    rw (l-flat, s-flat) (IsPermutation-append_right (flat_map f front) _ _
    (turned (f x) (flat_map f m) (f y) (flat_map f back)))

any_swapped : {X B : Type 0} (f : X → List B) (l : List X) (i j : ℕ) → i < length l → j < length l
    → IsPermutation (flat_map f l) (flat_map f (swap l i j))
any_swapped f [] i j a b = absurd (omega (arith, a))
any_swapped {X} f (d ∷ ls) i j a b = go (ltb i j) refl
  where
    l : List X
    l = d ∷ ls

    go : (v : Bool) → ltb i j ≡ v → IsPermutation (flat_map f l) (flat_map f (swap l i j))
    go true e = swapped_parts f l i j d (ltb-true _ _ e) b
    go false e = go2 (ltb j i) refl
      where
        go2 : (v : Bool) → ltb j i ≡ v → IsPermutation (flat_map f l) (flat_map f (swap l i j))
        go2 true e2 =
            let less = ltb-true _ _ e2 in
            let same : swap l j i ≡ swap l i j = sym (swap_is l j i d b a)
            ∙ set_comm l j i _ _ (λ z. absurd (omega (arith, z, less))) ∙ swap_is l i j d a b in
            rw (sym same) (swapped_parts f l j i d less a)
        go2 false e2 =
            let same : i ≡ j = omega (arith, ltb-false _ _ e, ltb-false _ _ e2) in
            let still : swap l i j ≡ l = rw same (sym (swap_is l j j d b b)
            ∙ rw (set-get_or l j d) (set-get_or l j d)) in
            rw still (IsPermutation-refl _)

-- parts in another order have the same elements
pub flat_permutation : {X B : Type 0} (f : X → List B) (zs ws : List X) → IsPermutation zs ws
    → IsPermutation (flat_map f zs) (flat_map f ws)
flat_permutation {X} f zs ws p =
    IsPermutation-keeps zs (λ l. IsPermutation (flat_map f zs) (flat_map f l)) (IsPermutation-refl _)
    (λ l i j a b h. IsPermutation-trans _ _ _ h (any_swapped f l i j a b)) ws p

-- elements that are in another order by what f gives of them
pub lift_permutation : {X Y : Type 0} (f : X → Y) (zs : List X) (ys : List Y) → IsPermutation (map f zs) ys
    → (ws : List X) × (map f ws ≡ ys) × IsPermutation zs ws
lift_permutation {X} {Y} f zs ys p =
    IsPermutation-keeps (map f zs) (λ l. (ws : List X) × (map f ws ≡ l) × IsPermutation zs ws)
    (zs, refl, IsPermutation-refl zs) step ys p
  where
    step : (l : List Y) (i j : ℕ) → i < length l → j < length l
        → ((ws : List X) × (map f ws ≡ l) × IsPermutation zs ws)
        → (ws : List X) × (map f ws ≡ swap l i j) × IsPermutation zs ws
    step l i j a b h = go h.0 h.1 h.2
      where
        go : (ws : List X) → map f ws ≡ l → IsPermutation zs ws
            → (vs : List X) × (map f vs ≡ swap l i j) × IsPermutation zs vs
        go [] e q = absurd (omega (arith, a, ap length (sym e)))
        go (w ∷ ws) e q =
            let long : length (w ∷ ws) ≡ length l = sym (length-map (w ∷ ws) f) ∙ ap length e in (
              swap (w ∷ ws) i j,
              map_swap f (w ∷ ws) i j w (omega (arith, a, long)) (omega (arith, b, long)) ∙ ap (λ v. swap v i j) e,
              IsPermutation-trans _ _ _ q
                  (IsPermutation-swap _ _ i j (omega (arith, a, long)) (omega (arith, b, long)) refl),
            )
