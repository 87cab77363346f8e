-- What is put into an output (`Outputs`): one text behind another, and what a list then has.
use Rattle.std.proofs.Common.{◌≡◌, ℕ, zero, suc, ◌+◌, ◌*◌, ◌<◌, ◌≤◌, List, [], ◌∷◌, ◌++◌, length, drop, map, get_or}
use Rattle.std.proofs.Common.{refl, sym, ap, ◌∙◌, arith, subst, append_assoc, append-nil, length-append}
use Rattle.std.proofs.Common.{Bool, true, false, cond, nat_eq, ℤ, ◌==◌}
use Rattle.std.specs.Prelude.{Vec, vec_len, vec_capacity}
use Rattle.std.proofs.lemmas.List.{at_drop_more, at_drop_all}
use Rattle.std.proofs.lemmas.Bool.{eqb-true}
use Rattle.std.proofs.lemmas.Grind.{flat_map-append}
use Rattle.std.specs.List.{flat_map, concat}
use Rattle.scip_records.specs.Range.{RangeNumbers}
use Rattle.scip_wire.specs.Fields.{Field}
use Rattle.scip_wire.specs.Spelling.{varint, bytes_of, field_bytes, number_fields, int_fields, text_fields}
use Rattle.scip_wire.specs.Spelling.{range_numbers}
use Rattle.scip_wire.specs.Outputs.{IsPut, put, HasGained, IsFilled}

-- ---- the records of a message, one put behind another

module _ {W O : Type 0} {holds : W → O → W → O → List ℕ → Type 0} where
  pub nothing : {a : W} {p : O} → IsPut holds a p a p []
  nothing {a} {p} = put (λ sink begun earlier h. subst (holds sink begun a p) (sym (append-nil earlier)) h)

  -- two texts
  pub both : {a b c : W} {p q r : O} {x y : List ℕ} → IsPut holds a p b q x → IsPut holds b q c r y
      → IsPut holds a p c r (x ++ y)
  both {a} {b} {c} {p} {q} {r} {x} {y} (put f) (put g) =
      put (λ sink begun earlier h.
      subst (holds sink begun c r) (append_assoc earlier x y)
      (g sink begun (earlier ++ x) (f sink begun earlier h)))

  -- a text in place of an equal one
  pub alike : {a b : W} {p q : O} {x y : List ℕ} → x ≡ y → IsPut holds a p b q x → IsPut holds a p b q y
  alike {a} {b} {p} {q} e s = subst (IsPut holds a p b q) e s

  -- the records of some fields and of others
  pub joined : {a b c : W} {p q r : O} (fs gs : List Field) → IsPut holds a p b q (bytes_of fs)
      → IsPut holds b q c r (bytes_of gs) → IsPut holds a p c r (bytes_of (fs ++ gs))
  joined fs gs s t = alike (sym (flat_map-append field_bytes fs gs)) (both s t)

  -- a number as the call takes it is the number as it stands
  pub same_int : {a b : W} {p q : O} (k : ℕ) {y z : ℤ} → y ≡ z → IsPut holds a p b q (bytes_of (int_fields k y))
      → IsPut holds a p b q (bytes_of (int_fields k z))
  same_int k e s = alike (ap (λ n. bytes_of (int_fields k n)) e) s

-- ---- a list as an output

module _ {W Z : Type 0} where
  -- `n` bytes were put behind what a list had, if it had room for them
  pub filled : (a b : W) (old new : Vec ℕ Z) (bytes : List ℕ) (done : Bool) (n : ℕ) → n ≡ length bytes
      → new.items ≡ cond done (old.items ++ bytes) old.items
      → vec_len new ≡ cond done (vec_len old + n) (vec_len old)
      → (vec_len old + n ≤ vec_capacity old → done ≡ true) → vec_capacity old ≤ vec_capacity new
      → IsPut (IsFilled {W = W} {Z = Z}) a old b new bytes
  filled a b old new bytes true n size items len room capacity =
      put (λ sink begun earlier h fits.
      let had : HasGained begun old earlier = h (omega (arith, fits, length-append earlier bytes)) in
      record {
        items = items ∙ ap (λ l. l ++ bytes) had.items ∙ append_assoc begun.items earlier bytes;
        len = omega (arith, size, len, had.len, length-append earlier bytes);
        capacity = omega (arith, had.capacity, capacity);
      })
  filled a b old new bytes false n size items len room capacity =
      put (λ sink begun earlier h fits.
      let had : HasGained begun old earlier = h (omega (arith, fits, length-append earlier bytes)) in
      let none : false ≡ true = room (omega (arith, size, fits, had.len, had.capacity, length-append earlier bytes)) in
      absurd cc)

  -- all that was put into an empty list that had room for it
  pub all_filled : (a b : W) (begun now : Vec ℕ Z) (bytes : List ℕ) → begun.items ≡ [] → vec_len begun ≡ 0
      → length bytes ≤ vec_capacity begun → IsPut (IsFilled {W = W} {Z = Z}) a begun b now bytes → now.items ≡ bytes
  all_filled a b begun now bytes none len room (put f) =
      let at_first : HasGained begun begun [] =
      record { items = sym (append-nil begun.items); len = omega arith; capacity = omega arith } in
      let gained : HasGained begun now bytes = f a begun [] (λ fits. at_first) (omega (arith, len, room)) in
      gained.items ∙ ap (λ l. l ++ bytes) none

-- ---- records

-- a number's record
pub number_some : (k n : ℕ) → 0 < n → varint (8 * k) ++ varint n ≡ bytes_of (number_fields k n)
number_some k zero some = absurd (omega arith)
number_some k (suc n) some = sym (append-nil (varint (8 * k) ++ varint (suc n)))

pub number_none : (k n : ℕ) → n ≡ 0 → [] ≡ bytes_of (number_fields k n)
number_none k zero none = refl
number_none k (suc n) none = absurd (omega arith)

-- an empty text has no record
pub text_none : (k : ℕ) (bytes : List ℕ) → (length bytes == 0) ≡ true → [] ≡ bytes_of (text_fields k bytes)
text_none k [] none = refl
text_none k (b ∷ bs) none = let empty : length (b ∷ bs) ≡ 0 = eqb-true _ 0 none in absurd (omega (arith, empty))

-- a range's numbers, of which the third is there only if both ends aren't on one line
numbers_by : (r : RangeNumbers) (same : Bool)
    → varint r.start_line ++ (varint r.start_column ++ (cond same [] (varint r.end_line) ++ varint r.end_column))
    ≡ flat_map varint (cond same (r.start_line ∷ r.start_column ∷ r.end_column ∷ [])
    (r.start_line ∷ r.start_column ∷ r.end_line ∷ r.end_column ∷ []))
numbers_by r true = ap (λ l. varint r.start_line ++ (varint r.start_column ++ l))
    (sym (append-nil (varint r.end_column)))
numbers_by r false = ap (λ l. varint r.start_line ++ (varint r.start_column ++ (varint r.end_line ++ l)))
    (sym (append-nil (varint r.end_column)))

pub numbers_joined : (r : RangeNumbers)
    → varint r.start_line
    ++ (varint r.start_column ++ (cond (nat_eq r.start_line r.end_line) [] (varint r.end_line) ++ varint r.end_column))
    ≡ flat_map varint (range_numbers r)
numbers_joined r = numbers_by r (nat_eq r.start_line r.end_line)

pub left_out : (test : Bool) (x : List ℕ) → test ≡ true → [] ≡ cond test [] x
left_out true x is = refl
left_out false x is = absurd cc

pub left_in : (test : Bool) (x : List ℕ) → test ≡ false → x ≡ cond test [] x
left_in true x is = absurd cc
left_in false x is = refl

-- one more record of a list, and the end of it
pub records_more : {X : Type 0} (record_of : X → Field) (xs : List X) (i : ℕ) (x : X) → i < length xs
    → x ≡ get_or xs i x
    → bytes_of (record_of x ∷ []) ++ bytes_of (map record_of (drop (i + 1) xs)) ≡ bytes_of (map record_of (drop i xs))
records_more record_of xs i x inside is =
    let tail = bytes_of (map record_of (drop (i + 1) xs)) in
    ap (λ l. l ++ tail) (append-nil (field_bytes (record_of x))) ∙ ap (λ y. field_bytes (record_of y) ++ tail) is
    ∙ sym (at_drop_more (λ ys. bytes_of (map record_of ys)) xs i x inside)

pub records_done : {X : Type 0} (record_of : X → Field) (xs : List X) (i : ℕ) → length xs ≤ i
    → [] ≡ bytes_of (map record_of (drop i xs))
records_done record_of xs i past = sym (at_drop_all (λ ys. bytes_of (map record_of ys)) xs i past)

-- one more text of a list, and the end of it
pub texts_more : (xs : List (List ℕ)) (i : ℕ) (x : List ℕ) → i < length xs → x ≡ get_or xs i x
    → x ++ concat (drop (i + 1) xs) ≡ concat (drop i xs)
texts_more xs i x inside is =
    ap (λ l. l ++ concat (drop (i + 1) xs)) is ∙ sym (at_drop_more (λ ys. concat ys) xs i x inside)

pub texts_done : (xs : List (List ℕ)) (i : ℕ) → length xs ≤ i → [] ≡ concat (drop i xs)
texts_done xs i past = sym (at_drop_all (λ ys. concat ys) xs i past)
