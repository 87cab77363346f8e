-- Where no record is read, the fault that is named says why there is none; and there is one such fault.
use Rattle.std.proofs.Common.{◌≡◌, ◌⊎◌, inl, inr, refl, sym, subst, ℕ, ◌+◌, ◌*◌, ◌/◌, ◌%◌, ◌^◌, ◌<◌, ◌≤◌}
use Rattle.std.proofs.Common.{List, length, Option, Some, None, arith}
use Rattle.std.specs.Prelude.{false, nat_eq, nat_lt, nat_le}
use Rattle.std.proofs.lemmas.Bool.{lt-ltb, le-ltb, ltb-true, ltb-false, eqb-true}
use Rattle.std.proofs.lemmas.Bool.Decides.{nat_tests}
use Rattle.std.proofs.lemmas.Option.{none-some}
use Rattle.scip_wire.specs.Fields.{IsVarint, max_varint_len}
use Rattle.scip_wire.specs.Reading.{◌>>=◌, varint_at, piece_at, payload_at, field_at}
use Rattle.scip_wire.specs.Refused.{NoPayload, value, of_eight_bytes, size, of_its_size, of_four_bytes, group}
use Rattle.scip_wire.specs.Refused.{other_type, NoField, tag, large_tag, number_zero, payload}
use Rattle.scip_wire.specs.Blamed.{varint_fault, payload_fault, field_fault}
use Rattle.scip_wire.specs.declared.wire_fault.WireFault.{WireFault}
use Rattle.scip_wire.specs.declared.wire_fault.WireFault.TheVariants.{Truncated}
use Rattle.scip_wire.proofs.ReadingOptionLemmas.{split}
use Rattle.scip_wire.proofs.FieldLemmas.{varint_found, varint_exact}
use Rattle.scip_wire.proofs.RefusedVarintLemmas.{on_option, varint_refused, varint_blamed}

-- nothing comes of nothing alone
pub nothing : {A B : Type 0} (o : Option A) (f : A → B) → (o >>= λ x. Some (f x)) ≡ None → o ≡ None
nothing None f e = refl
nothing (Some x) f e = absurd (none-some _ (sym e))

-- a piece isn't read exactly where there are too few bytes
too_short : (n : ℕ) (bytes : List ℕ) → piece_at n bytes ≡ None → length bytes < n
unfolding piece_at
too_short n bytes e =
    split (nat_le n (length bytes))
    (λ fits. absurd (none-some _ (sym (rw fits at e))))
    (λ short. grind (arith, nat_tests))

no_piece : (n : ℕ) (bytes : List ℕ) → length bytes < n → piece_at n bytes ≡ None
unfolding piece_at
no_piece n bytes short =
    let test : nat_le n (length bytes) ≡ false = grind (arith, nat_tests) in
    rw test refl

-- ---- payloads

others : (type : ℕ) → type < 8 → nat_eq type 0 ≡ false → nat_eq type 1 ≡ false → nat_eq type 2 ≡ false
    → nat_eq type 5 ≡ false → nat_eq type 3 ≡ false → nat_eq type 4 ≡ false → (type ≡ 6) ⊎ (type ≡ 7)
others type below not0 not1 not2 not5 not3 not4 =
    split (nat_eq type 6)
    (λ is. inl (eqb-true type 6 is))
    (λ not6. inr (grind (arith, nat_tests)))

pub payload_refused : (start type : ℕ) (bytes : List ℕ) → type < 8 → payload_at type bytes ≡ None
    → NoPayload start type bytes (payload_fault start type bytes)
unfolding payload_at payload_fault
payload_refused start type bytes below e =
    split (nat_eq type 0)
    (λ is0.
    let none = nothing (varint_at max_varint_len bytes) _ (rw is0 at e) in
    rw is0 (subst (λ t. NoPayload start t bytes (varint_fault start max_varint_len bytes)) (sym (eqb-true type 0 is0))
    (value (varint_refused start max_varint_len bytes none))))
    (λ not0. split (nat_eq type 1)
    (λ is1.
    let none = nothing (piece_at 8 bytes) _ (rw (not0, is1) at e) in
    rw (not0, is1) (subst (λ t. NoPayload start t bytes (Truncated start)) (sym (eqb-true type 1 is1))
    (of_eight_bytes (too_short 8 bytes none))))
    (λ not1. split (nat_eq type 2)
    (λ is2.
    let e2 = rw (not0, not1, is2) at e in
    let two = sym (eqb-true type 2 is2) in
    on_option (varint_at max_varint_len bytes)
    (λ none. rw (not0, not1, is2, none)
    (subst (λ t. NoPayload start t bytes (varint_fault start max_varint_len bytes)) two
    (size (varint_refused start max_varint_len bytes none))))
    (λ n some.
    let none = nothing (piece_at n.0 n.1) _ (rw some at e2) in
    rw (not0, not1, is2, some) (subst (λ t. NoPayload start t bytes (Truncated start)) two
    (of_its_size (varint_found max_varint_len bytes n some) (too_short n.0 n.1 none)))))
    (λ not2. split (nat_eq type 5)
    (λ is5.
    let none = nothing (piece_at 4 bytes) _ (rw (not0, not1, not2, is5) at e) in
    rw (not0, not1, not2, is5) (subst (λ t. NoPayload start t bytes (Truncated start)) (sym (eqb-true type 5 is5))
    (of_four_bytes (too_short 4 bytes none))))
    (λ not5. split (nat_eq type 3)
    (λ is3. rw (not0, not1, not2, not5, is3) (group (inl (eqb-true type 3 is3))))
    (λ not3. split (nat_eq type 4)
    (λ is4. rw (not0, not1, not2, not5, not3, is4) (group (inr (eqb-true type 4 is4))))
    (λ not4. rw (not0, not1, not2, not5, not3, not4)
    (other_type (others type below not0 not1 not2 not5 not3 not4))))))))

pub payload_blamed : {start type : ℕ} {bytes : List ℕ} {fault : WireFault}
    → NoPayload start type bytes fault → (payload_at type bytes ≡ None) × (fault ≡ payload_fault start type bytes)
unfolding payload_at payload_fault
payload_blamed {bytes = bytes} (value n) =
    let v = varint_blamed n in
    (rw v.0 refl, v.1)
payload_blamed {bytes = bytes} (of_eight_bytes short) = (rw (no_piece 8 bytes short) refl, refl)
payload_blamed {bytes = bytes} (size n) =
    let v = varint_blamed n in
    (rw v.0 refl, rw v.0 v.1)
payload_blamed (of_its_size {rest = rest} {size = n} v short) =
    (rw (varint_exact v, no_piece n rest short) refl, rw (varint_exact v) refl)
payload_blamed {bytes = bytes} (of_four_bytes short) = (rw (no_piece 4 bytes short) refl, refl)
payload_blamed (group (inl e)) = (rw e refl, rw e refl)
payload_blamed (group (inr e)) = (rw e refl, rw e refl)
payload_blamed (other_type (inl e)) = (rw e refl, rw e refl)
payload_blamed (other_type (inr e)) = (rw e refl, rw e refl)

no_payload_type : {start type : ℕ} {bytes : List ℕ} {fault : WireFault} → NoPayload start type bytes fault → type < 8
no_payload_type (value n) = omega arith
no_payload_type (of_eight_bytes short) = omega arith
no_payload_type (size n) = omega arith
no_payload_type (of_its_size v short) = omega arith
no_payload_type (of_four_bytes short) = omega arith
no_payload_type (group (inl e)) = omega (arith, e)
no_payload_type (group (inr e)) = omega (arith, e)
no_payload_type (other_type (inl e)) = omega (arith, e)
no_payload_type (other_type (inr e)) = omega (arith, e)

-- ---- records

pub field_refused : (start : ℕ) (bytes : List ℕ) → field_at bytes ≡ None
    → NoField start bytes (field_fault start bytes)
unfolding field_at field_fault
field_refused start bytes e =
    on_option (varint_at max_varint_len bytes)
    (λ none. rw none (tag (varint_refused start max_varint_len bytes none)))
    (λ t some.
    let v = varint_found max_varint_len bytes t some in
    split (nat_lt t.0 (2 ^ 32))
    (λ small. split (nat_lt t.0 8)
    (λ zero. rw (some, small, zero) (number_zero v (ltb-true t.0 8 zero)))
    (λ above.
    let none = nothing (payload_at (t.0 % 8) t.1) _ (rw (some, small, above) at e) in
    let parts : t.0 ≡ 8 * (t.0 / 8) + t.0 % 8 = omega arith in
    let large : 8 ≤ t.0 = ltb-false t.0 8 above in
    let below : t.0 < 2 ^ 32 = ltb-true t.0 (2 ^ 32) small in
    rw (some, small, above)
    (payload (subst (λ n. IsVarint max_varint_len bytes n t.1) parts v) (omega arith) (omega arith)
    (payload_refused start (t.0 % 8) t.1 (omega arith) none))))
    (λ over. rw (some, over) (large_tag v (ltb-false t.0 (2 ^ 32) over))))

pub field_blamed : {start : ℕ} {bytes : List ℕ} {fault : WireFault} → NoField start bytes fault
    → (field_at bytes ≡ None) × (fault ≡ field_fault start bytes)
unfolding field_at field_fault
field_blamed {bytes = bytes} (tag n) =
    let v = varint_blamed n in
    (rw v.0 refl, rw v.0 v.1)
field_blamed (large_tag {tag = n} v h) =
    let test = le-ltb n (2 ^ 32) h in
    (rw (varint_exact v, test) refl, rw (varint_exact v, test) refl)
field_blamed (number_zero {tag = n} v h) =
    let small = lt-ltb n (2 ^ 32) (omega (arith, h)) in
    let zero = lt-ltb n 8 h in
    (rw (varint_exact v, small, zero) refl, rw (varint_exact v, small, zero) refl)
field_blamed {start = start} (payload {number = number} {type = type} v above below n) =
    let t : type < 8 = no_payload_type n in
    let small = lt-ltb (8 * number + type) (2 ^ 32) (omega (arith, t, below)) in
    let large = le-ltb (8 * number + type) 8 (omega (arith, above)) in
    let quotient : (8 * number + type) / 8 ≡ number = omega arith in
    let remainder : (8 * number + type) % 8 ≡ type = omega arith in
    let p = payload_blamed n in
    (rw (varint_exact v, small, large, quotient, remainder, p.0) refl, rw (varint_exact v, small, large, remainder) p.1)
