-- Lists whose keys rise: of a key there is one element.
use Rattle.std.proofs.Common.{◌≡◌, ◌≢◌, inl, inr, ℕ, ◌+◌, ◌-◌, ◌<◌, ◌≤◌, true, false, ltb, List, length, map, get_or}
use Rattle.std.proofs.Common.{take, drop}
use Rattle.std.proofs.Common.{Some, None, ap, sym, ◌∙◌, arith}
use Rattle.std.specs.List.{Contains, slice_get}
use Rattle.std.specs.List.Sorted.{IsStrictlyIncreasing, IsNonDecreasingBy, IsPartitionPoint}
use Rattle.std.specs.Option.{option_map}
use Rattle.std.proofs.lemmas.Bool.{cases_lt, cases_order, ltb-true, ltb-false}
use Rattle.std.proofs.lemmas.List.{get_or-take, get_or-drop, length-drop, length-take-le}
use Rattle.std.proofs.lemmas.Option.{none-some, same_Some, slice_get_within, slice_get-map, slice_get-get_or}
use Rattle.std.proofs.lemmas.Option.{get_or_from_slice_get}
use Rattle.std.proofs.lemmas.Map.Keys.{sorted_from_strictly_increasing, below_from_sorted}
use Rattle.basics.proofs.FirstLemmas.{at_contained}
use Rattle.option_link.specs.Tables.{KeysRise}

same_number : (i j : ℕ) → i ≤ j → j ≤ i → i ≡ j
same_number i j p q = omega (arith, p, q)

module _ {A : Type 0} (key : A → ℕ) where
  pub one_by_key : (xs : List A) → KeysRise key xs → (a b : A) → Contains xs a → Contains xs b → key a ≡ key b → a ≡ b
  one_by_key xs rise a b there also same =
      let x = at_contained xs a there in
      let y = at_contained xs b also in
      elim (cases_order there.0 also.0) [
        | inl equal ↦ same_Some a b (sym x ∙ (ap (slice_get xs) equal ∙ y))
        | inr apart ↦ elim apart [
          | inl less ↦ absurd (omega (arith, same, rise there.0 also.0 a b less x y))
          | inr more ↦ absurd (omega (arith, same, rise also.0 there.0 b a more y x))
        ]
      ]

  pub one_index_by_key : (xs : List A) → KeysRise key xs → (i j : ℕ) (a b : A) → slice_get xs i ≡ Some a
      → slice_get xs j ≡ Some b → key a ≡ key b → i ≡ j
  one_index_by_key xs rise i j a b at there same = elim (cases_order i j) [
    | inl equal ↦ equal
    | inr apart ↦ elim apart [
      | inl less ↦ absurd (omega (arith, same, rise i j a b less at there))
      | inr more ↦ absurd (omega (arith, same, rise j i b a more there at))
    ]
  ]

  key_at : (xs : List A) (i : ℕ) (a : A) → slice_get xs i ≡ Some a → slice_get (map key xs) i ≡ Some (key a)
  key_at xs i a at = slice_get-map key xs i ∙ ap (option_map key) at

  pub keys_rise : (xs : List A) → IsStrictlyIncreasing (map key xs) → KeysRise key xs
  keys_rise xs rising i j a b less at there =
      let from = key_at xs i a at in
      let to = key_at xs j b there in
      let apart = below_from_sorted (map key xs) i j 0 (sorted_from_strictly_increasing (map key xs) rising) less
      (slice_get_within (map key xs) j (key b) to) in
      omega (
        arith,
        apart,
        get_or_from_slice_get (map key xs) i (key a) 0 from,
        get_or_from_slice_get (map key xs) j (key b) 0 to,
      )

  -- keys that rise don't fall
  pub rising : (xs : List A) → KeysRise key xs → IsNonDecreasingBy key xs
  rising xs rise i j d before within = elim (cases_lt i j) [
    | inl less ↦ omega (
      arith,
      rise i j (get_or xs i d) (get_or xs j d) less (slice_get-get_or xs i d (omega (arith, before, within)))
          (slice_get-get_or xs j d within),
    )
    | inr more ↦ omega (arith, ap (λ n. key (get_or xs n d)) (same_number i j before more))
  ]

  -- ---- a search by halves for a key

  module _ (xs : List A) (start before : ℕ)
      (point : IsPartitionPoint (λ x. ltb (key x) start ≡ true) (λ x. ltb (key x) start ≡ false) xs before) where
    from_there : (k : ℕ) (x : A) → slice_get xs k ≡ Some x → start ≤ key x → before ≤ k
    from_there k x at least = elim (cases_lt k before) [
      | inl early ↦ (
          let is = get_or_from_slice_get xs k x x at in
          absurd (omega (arith, least, ap key is, ltb-true _ _ (point.0 k x (omega arith) early))))
      | inr late ↦ late
    ]

    pub none_there : slice_get xs before ≡ None → (x : A) → Contains xs x → key x ≡ start → ⊥
    none_there none x there is =
        let late = from_there there.0 x (at_contained xs x there) (omega (arith, is)) in
        none-some (get_or xs before x)
        (sym none ∙ slice_get-get_or xs before x (omega (arith, late, there.1)))

    -- the first that isn't before the key is the only one with it
    pub only_there : KeysRise key xs → (one : A) → slice_get xs before ≡ Some one → (x : A) → Contains xs x
        → key x ≡ start → x ≡ one
    only_there rise one at x there is =
        let here = at_contained xs x there in
        let late = from_there there.0 x here (omega (arith, is)) in
        let within = slice_get_within xs before one at in
        let least = ltb-false _ _ (point.1 before one (omega arith) within) in
        let itself = get_or_from_slice_get xs before one one at in
        elim (cases_lt before there.0) [
          | inl behind ↦ absurd (omega (arith, rise before there.0 one x behind at here, least, ap key itself, is))
          | inr not ↦ (
              let same : there.0 ≡ before = omega (arith, late, not) in
              same_Some x one (sym here ∙ (ap (slice_get xs) same ∙ at)))
        ]

    -- where keys don't fall, nothing has it if the first that isn't before it has another one
    pub none_with : IsNonDecreasingBy key xs → (one : A) → slice_get xs before ≡ Some one → (key one ≡ start → ⊥)
        → (x : A) → Contains xs x → key x ≡ start → ⊥
    none_with sorted one at other x there is =
        let here = at_contained xs x there in
        let late = from_there there.0 x here (omega (arith, is)) in
        let within = slice_get_within xs before one at in
        let least = ltb-false _ _ (point.1 before one (omega arith) within) in
        let itself = get_or_from_slice_get xs before one one at in
        let its = get_or_from_slice_get xs there.0 x one here in
        let high = sorted before there.0 one late there.1 in
        other (omega (arith, least, high, ap key itself, ap key its, is))

    -- ---- those with a key, where several may have it

    module _ (sorted : IsNonDecreasingBy key xs) (count : ℕ) (few : count ≤ length (drop before xs))
        (same : (k : ℕ) (x : A) → k < count → slice_get (drop before xs) k ≡ Some x → key x ≡ start)
        (stop : (x : A) → slice_get (drop before xs) count ≡ Some x → key x ≢ start) where
      pub near_from : (x : A) → Contains (take count (drop before xs)) x → Contains xs x
          × (key x ≡ start)
      near_from x there =
          let size = length-take-le count (drop before xs) few in
          let room = length-drop before xs in
          let k = there.0 in
          let inside : k < count = omega (arith, there.1, size) in
          let in_drop : k < length (drop before xs) = omega (arith, inside, few) in
          let is : get_or xs (before + k) x ≡ x =
          sym (get_or-drop before xs k x) ∙ (sym (get_or-take count (drop before xs) k x inside) ∙ there.2) in
          let also : get_or (drop before xs) k x ≡ x = get_or-drop before xs k x ∙ is in
          let within : before + k < length xs = omega (arith, in_drop, room) in (
            (before + k, within, is),
            same k x inside (slice_get-get_or (drop before xs) k x in_drop ∙ ap Some also),
          )

      pub near_to : (x : A) → Contains xs x → key x ≡ start → Contains (take count (drop before xs)) x
      near_to x there is =
          let size = length-take-le count (drop before xs) few in
          let room = length-drop before xs in
          let late = from_there there.0 x (at_contained xs x there) (omega (arith, is)) in
          let k = there.0 - before in
          let place : before + k ≡ there.0 = omega (arith, late) in
          let in_drop : k < length (drop before xs) = omega (arith, there.1, late, room) in
          let at : get_or xs (before + k) x ≡ x = ap (λ n. get_or xs n x) place ∙ there.2 in
          let here : get_or (drop before xs) k x ≡ x = get_or-drop before xs k x ∙ at in
          let inside : k < count = inside_by k x in_drop at is in
          (k, omega (arith, inside, size), get_or-take count (drop before xs) k x inside ∙ here)
        where
          inside_by : (k : ℕ) (y : A) → k < length (drop before xs) → get_or xs (before + k) y ≡ y → key y ≡ start
              → k < count
          inside_by k y within here is = elim (cases_lt k count) [
            | inl early ↦ early
            | inr late ↦ (
                let room = length-drop before xs in
                let end = get_or (drop before xs) count y in
                let its : end ≡ get_or xs (before + count) y = get_or-drop before xs count y in
                let low = ltb-false _ _ (point.1 (before + count) y (omega arith) (omega
                (arith, late, within, room))) in
                let high = sorted (before + count) (before + k) y (omega (arith, late)) (omega (arith, within, room)) in
                absurd (stop end (slice_get-get_or (drop before xs) count y (omega (arith, late, within)))
                (omega (arith, low, high, ap key its, ap key here, is))))
          ]
