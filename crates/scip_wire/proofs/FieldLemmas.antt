-- The reader of fields finds those that the bytes hold, and no others.
use Rattle.std.proofs.Common.{◌≡◌, refl, ap, sym, subst, ℕ, zero, suc, ◌+◌, ◌*◌, ◌/◌, ◌%◌, ◌^◌, ◌<◌, ◌≤◌, List, [], ◌∷◌}
use Rattle.std.proofs.Common.{◌++◌, length, Some, arith, length-append}
use Rattle.std.proofs.lemmas.Option.{same_Some}
use Rattle.std.specs.Prelude.{nat_eq, nat_lt, nat_le}
use Rattle.std.proofs.lemmas.Bool.{lt-ltb, ltb-true, le-ltb, ltb-false, eqb-true, le-leb, leb-true}
use Rattle.std.proofs.lemmas.List.{take-append-drop, length-take}
use Rattle.std.proofs.Math.Seq.{take-append_seam, drop-append_seam}
use Rattle.scip_wire.specs.Fields.{Payload, Varint, Fixed64, Delimited, Fixed32, Field, IsVarint, last, more, IsPayload}
use Rattle.scip_wire.specs.Fields.{varint, fixed64, delimited, fixed32, IsField, field, max_varint_len}
use Rattle.scip_wire.specs.Reading.{varint_at, piece_at, payload_at, field_at}
use Rattle.scip_wire.proofs.ReadingOptionLemmas.{bind_some, chosen, guard_some, guard_none}

-- ---- varints

pub varint_found : (limit : ℕ) (bytes : List ℕ) (x : ℕ × List ℕ) → varint_at limit bytes ≡ Some x
    → IsVarint limit bytes x.0 x.1
unfolding varint_at
varint_found zero bytes x e = absurd (cc)
varint_found (suc limit) [] x e = absurd (cc)
varint_found (suc limit) (byte ∷ bytes) x e =
    let P : ℕ × List ℕ → Type 0 = λ y. IsVarint (suc limit) (byte ∷ bytes) y.0 y.1 in
    chosen (nat_lt byte 128) _ _ _ e
    (λ small same. subst P (same_Some _ x same) (last (ltb-true byte 128 small)))
    (λ large rest.
    let h = bind_some (varint_at limit bytes) _ x rest in
    let g = guard_some (nat_lt h.0.0 (2 ^ 57)) _ x h.2 in
    subst P (same_Some _ x g.1)
    (more (ltb-false byte 128 large) (ltb-true h.0.0 (2 ^ 57) g.0) (varint_found limit bytes h.0 h.1)))

pub varint_exact : {limit value : ℕ} {bytes rest : List ℕ} → IsVarint limit bytes value rest
    → varint_at limit bytes ≡ Some (value, rest)
unfolding varint_at
varint_exact (last small) = rw (lt-ltb _ 128 small) refl
varint_exact (more large high v) = rw (le-ltb _ 128 large, varint_exact v, lt-ltb _ (2 ^ 57) high) refl

pub varint_falls : {limit value : ℕ} {bytes rest : List ℕ} → IsVarint limit bytes value rest
    → length rest < length bytes
varint_falls (last small) = omega arith
varint_falls (more large high v) = omega (arith, varint_falls v)

-- ---- pieces

pub piece_found : (size : ℕ) (bytes : List ℕ) (x : List ℕ × List ℕ) → piece_at size bytes ≡ Some x
    → (bytes ≡ x.0 ++ x.1) × (length x.0 ≡ size)
unfolding piece_at
piece_found size bytes x e =
    let g = guard_some (nat_le size (length bytes)) _ x e in
    let fits : size ≤ length bytes = leb-true size (length bytes) g.0 in
    let P : List ℕ × List ℕ → Type 0 = λ y. (bytes ≡ y.0 ++ y.1) × (length y.0 ≡ size) in
    subst P (same_Some _ x g.1) (sym (take-append-drop size bytes), simp length-take (omega arith))

pub piece_exact : (size : ℕ) (bytes inside rest : List ℕ) → bytes ≡ inside ++ rest → length inside ≡ size
    → piece_at size bytes ≡ Some (inside, rest)
unfolding piece_at
piece_exact size bytes inside rest e l =
    rw (
      e,
      ← l,
      le-leb (length inside) (length (inside ++ rest)) (simp length-append (omega arith)),
      take-append_seam inside rest,
      drop-append_seam inside rest,
    ) refl

-- ---- payloads

pub payload_found : (type : ℕ) (bytes : List ℕ) (x : Payload × List ℕ) → payload_at type bytes ≡ Some x
    → IsPayload type bytes x.0 x.1
unfolding payload_at
payload_found type bytes x e =
    let P : Payload × List ℕ → Type 0 = λ y. IsPayload type bytes y.0 y.1 in
    chosen (nat_eq type 0) _ _ _ e
    (λ is rest.
    let v = bind_some (varint_at max_varint_len bytes) _ x rest in
    subst P (same_Some _ x v.2)
    (subst (λ t. IsPayload t bytes (Varint v.0.0) v.0.1) (sym (eqb-true type 0 is))
    (varint (varint_found max_varint_len bytes v.0 v.1))))
    (λ _ e1. chosen (nat_eq type 1) _ _ _ e1
    (λ is rest.
    let p = bind_some (piece_at 8 bytes) _ x rest in
    let h = piece_found 8 bytes p.0 p.1 in
    subst P (same_Some _ x p.2)
    (subst (λ t. IsPayload t bytes (Fixed64 p.0.0) p.0.1) (sym (eqb-true type 1 is)) (fixed64 h.0 h.1)))
    (λ _ e2. chosen (nat_eq type 2) _ _ _ e2
    (λ is rest.
    let v = bind_some (varint_at max_varint_len bytes) _ x rest in
    let p = bind_some (piece_at v.0.0 v.0.1) _ x v.2 in
    let h = piece_found v.0.0 v.0.1 p.0 p.1 in
    let size = varint_found max_varint_len bytes v.0 v.1 in
    let size_of_inside = subst (λ n. IsVarint max_varint_len bytes n v.0.1) (sym h.1) size in
    subst P (same_Some _ x p.2) (subst (λ t. IsPayload t bytes (Delimited p.0.0) p.0.1) (sym (eqb-true type 2 is))
    (delimited (subst (λ l. IsVarint max_varint_len bytes (length p.0.0) l) h.0 size_of_inside))))
    (λ _ e3.
    let g = guard_some (nat_eq type 5) _ x e3 in
    let p = bind_some (piece_at 4 bytes) _ x g.1 in
    let h = piece_found 4 bytes p.0 p.1 in
    subst P (same_Some _ x p.2)
    (subst (λ t. IsPayload t bytes (Fixed32 p.0.0) p.0.1) (sym (eqb-true type 5 g.0)) (fixed32 h.0 h.1)))))

pub payload_exact : {type : ℕ} {bytes rest : List ℕ} {payload : Payload} → IsPayload type bytes payload rest
    → payload_at type bytes ≡ Some (payload, rest)
unfolding payload_at
payload_exact (varint v) = rw (varint_exact v) refl
payload_exact (fixed64 {bytes} {inside} {rest} e l) = rw (piece_exact 8 bytes inside rest e l) refl
payload_exact (delimited {bytes} {inside} {rest} v) =
    rw (varint_exact v, piece_exact (length inside) (inside ++ rest) inside rest refl refl) refl
payload_exact (fixed32 {bytes} {inside} {rest} e l) = rw (piece_exact 4 bytes inside rest e l) refl

unfoldable pub payload_length : Payload → ℕ
payload_length (Varint value) = 0
payload_length (Fixed64 bytes) = length bytes
payload_length (Delimited bytes) = length bytes
payload_length (Fixed32 bytes) = length bytes

pub payload_falls : {type : ℕ} {bytes rest : List ℕ} {payload : Payload} → IsPayload type bytes payload rest
    → payload_length payload + length rest ≤ length bytes
unfolding payload_length
payload_falls (varint v) = omega (arith, varint_falls v)
payload_falls (fixed64 {bytes} {inside} {rest} e l) = omega (arith, ap length e, length-append inside rest)
payload_falls (delimited {bytes} {inside} {rest} v) = omega (arith, varint_falls v, length-append inside rest)
payload_falls (fixed32 {bytes} {inside} {rest} e l) = omega (arith, ap length e, length-append inside rest)

pub payload_type : {type : ℕ} {bytes rest : List ℕ} {payload : Payload} → IsPayload type bytes payload rest → type < 8
payload_type (varint v) = omega arith
payload_type (fixed64 e l) = omega arith
payload_type (delimited v) = omega arith
payload_type (fixed32 e l) = omega arith

-- ---- records

pub field_found : (bytes : List ℕ) (x : Field × List ℕ) → field_at bytes ≡ Some x → IsField bytes x.0 x.1
unfolding field_at
field_found bytes x e =
    let tag = bind_some (varint_at max_varint_len bytes) _ x e in
    let below = guard_some (nat_lt tag.0.0 (2 ^ 32)) _ x tag.2 in
    let above = guard_none (nat_lt tag.0.0 8) _ x below.1 in
    let p = bind_some (payload_at (tag.0.0 % 8) tag.0.1) _ x above.1 in
    let small : tag.0.0 < 2 ^ 32 = ltb-true tag.0.0 (2 ^ 32) below.0 in
    let large : 8 ≤ tag.0.0 = ltb-false tag.0.0 8 above.0 in
    let parts : tag.0.0 ≡ 8 * (tag.0.0 / 8) + tag.0.0 % 8 = omega arith in
    let tag_is = subst (λ n. IsVarint max_varint_len bytes n tag.0.1) parts
    (varint_found max_varint_len bytes tag.0 tag.1) in
    let P : Field × List ℕ → Type 0 = λ y. IsField bytes y.0 y.1 in
    subst P (same_Some _ x p.2) (field tag_is (omega arith) (omega arith) (payload_found (tag.0.0 % 8) tag.0.1 p.0 p.1))

pub field_exact : {bytes rest : List ℕ} {x : Field} → IsField bytes x rest → field_at bytes ≡ Some (x, rest)
unfolding field_at
field_exact (field {number} {type} {payload} {a} {b} {c} tag above below p) =
    let t : type < 8 = payload_type p in
    let small : 8 * number + type < 2 ^ 32 = omega arith in
    let large : 8 ≤ 8 * number + type = omega arith in
    let quotient : (8 * number + type) / 8 ≡ number = omega arith in
    let remainder : (8 * number + type) % 8 ≡ type = omega arith in
    rw (
      varint_exact tag,
      lt-ltb (8 * number + type) (2 ^ 32) small,
      le-ltb (8 * number + type) 8 large,
      quotient,
      remainder,
      payload_exact p,
    ) refl

pub field_falls : {bytes rest : List ℕ} {x : Field} → IsField bytes x rest → length rest < length bytes
field_falls (field tag above below p) = omega (arith, varint_falls tag, payload_falls p)
