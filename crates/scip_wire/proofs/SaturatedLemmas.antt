-- Steps of a loop that adds up the lengths of records.
use Rattle.std.proofs.Common.{◌≡◌, ◌++◌, ℕ, zero, suc, ◌*◌, ◌+◌, ◌-◌, ◌^◌, ◌<◌, ◌≤◌, min, List, [], ◌∷◌, length, drop}
use Rattle.std.proofs.Common.{map, get_or, sym, ap, ◌∙◌, arith, take, subst, length-append}
use Rattle.std.proofs.lemmas.List.{at_drop_more, at_drop_all}
use Rattle.std.proofs.lemmas.List.Elements.{All-more}
use Rattle.std.specs.List.{All}
use Rattle.scip_wire.specs.Fields.{Field}
use Rattle.scip_wire.specs.Spelling.{field_bytes, bytes_of, bytes_field, varint, repeated_message_fields}
use Rattle.scip_wire.specs.Saturated.{saturated, fields_len}

pub fields_len_more : (f : Field) (fs : List Field) → fields_len (f ∷ fs) ≡ fields_len (f ∷ []) + fields_len fs
fields_len_more f fs = omega (arith, length-append (field_bytes f) (bytes_of fs), length-append (field_bytes f) [])

-- one record further
pub len_further : {X : Type 0} (record_of : X → Field) (xs : List X) (i : ℕ) (x : X) (len one next total : ℕ)
    → i < length xs → x ≡ get_or xs i x → one ≡ saturated (fields_len (record_of x ∷ []))
    → next ≡ min (len + one) (2 ^ 64 - 1)
    → saturated (len + fields_len (map record_of (drop i xs))) ≡ saturated total
    → saturated (next + fields_len (map record_of (drop (i + 1) xs))) ≡ saturated total
len_further record_of xs i x len one next total inside is length_of added before =
    let rest = at_drop_more (λ ys. fields_len (map record_of ys)) xs i x inside in
    let here : get_or xs i x ≡ x = sym is in
    let split : fields_len (map record_of (drop i xs))
    ≡ fields_len (record_of x ∷ []) + fields_len (map record_of (drop (i + 1) xs)) =
    rest ∙ fields_len_more (record_of (get_or xs i x)) (map record_of (drop (i + 1) xs))
    ∙ ap (λ y. fields_len (record_of y ∷ []) + fields_len (map record_of (drop (i + 1) xs))) here in
    omega (arith, split)

-- all of them
pub len_done : {X : Type 0} (record_of : X → Field) (xs : List X) (i len total : ℕ)
    → length xs ≤ i → len < 2 ^ 64 → saturated (len + fields_len (map record_of (drop i xs))) ≡ saturated total
    → len ≡ saturated total
len_done record_of xs i len total past fits before =
    let none = at_drop_all (λ ys. fields_len (map record_of ys)) xs i past in
    omega (arith, none)

-- ---- what is known of each item, on the way

pub fit_further : {X : Type 0} (P : X → Type 0) (xs : List X) (i : ℕ) (x : X) → i < length xs → x ≡ get_or xs i x
    → All P (take i xs) → P x → All P (take (i + 1) xs)
fit_further P xs i x inside is before here = All-more P xs i x inside before (subst P is here)

-- ---- a message is no longer than the records of all

pub message_le : (k : ℕ) (bytes : List ℕ) → length bytes ≤ fields_len (bytes_field k bytes ∷ [])
message_le k bytes =
    omega (
      arith,
      length-append (field_bytes (bytes_field k bytes)) [],
      length-append (varint (8 * k + 2)) (varint (length bytes) ++ bytes),
      length-append (varint (length bytes)) bytes,
    )

messages_le : {X : Type 0} (fields : X → List Field) (k : ℕ) (xs : List X) (i : ℕ) (d : X) → i < length xs
    → fields_len (fields (get_or xs i d)) ≤ fields_len (repeated_message_fields k fields xs)
messages_le fields k [] i d inside = absurd (omega arith)
messages_le fields k (x ∷ xs) zero d inside =
    omega (
      arith,
      fields_len_more (bytes_field k (bytes_of (fields x))) (repeated_message_fields k fields xs),
      message_le k (bytes_of (fields x)),
    )
messages_le fields k (x ∷ xs) (suc i) d inside =
    omega (
      arith,
      fields_len_more (bytes_field k (bytes_of (fields x))) (repeated_message_fields k fields xs),
      messages_le fields k xs i d (omega arith),
    )

pub message_short : {X : Type 0} (fields : X → List Field) (k : ℕ) (xs : List X) (i : ℕ) (x : X) → i < length xs
    → x ≡ get_or xs i x
    → fields_len (repeated_message_fields k fields xs) < 2 ^ 64 → fields_len (fields x) < 2 ^ 64
message_short fields k xs i x inside is short =
    let bound = messages_le fields k xs i x inside in
    let here : fields_len (fields x) ≡ fields_len (fields (get_or xs i x)) = ap (λ y. fields_len (fields y)) is in
    omega (arith, bound, here)
