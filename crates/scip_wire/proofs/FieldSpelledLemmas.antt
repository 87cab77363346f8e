-- Spelled fields are the fields of their bytes.
use Rattle.std.proofs.Common.{◌≡◌, ℕ, zero, suc, ◌+◌, ◌-◌, ◌*◌, ◌/◌, ◌%◌, ◌^◌, ◌<◌, ◌≤◌, List, [], ◌∷◌, ◌++◌, length}
use Rattle.std.proofs.Common.{sym, ap, ◌∙◌, subst, arith, pow-suc, append_assoc, length-append}
use Rattle.std.proofs.lemmas.Bool.{cases_lt}
use Rattle.std.proofs.Common.{inl, inr}
use Rattle.scip_wire.specs.Fields.{Payload, Varint, Fixed64, Delimited, Fixed32, Field, IsVarint, last, more}
use Rattle.scip_wire.specs.Fields.{varint as varint_payload, delimited, IsField, field, HasFields, none, next}
use Rattle.scip_wire.specs.Fields.{max_varint_len, max_field_number}
use Rattle.scip_wire.specs.Spelling.{varint, varint_of_groups, bytes_of, field_bytes, record_bytes}
use Rattle.scip_wire.specs.Saturated.{fields_len}
use Rattle.scip_wire.proofs.SpellingVarintLemmas.{group_last, group_more}

-- a number is the value of its shortest varint, whatever follows
groups_are : (further n : ℕ) (rest : List ℕ) → n < 2 * 128 ^ further → n < 2 ^ 64
    → IsVarint (suc further) (varint_of_groups further n ++ rest) n rest
groups_are zero n rest fits small =
    let here : IsVarint 1 (n ∷ rest) n rest = last (omega arith) in
    subst (λ bytes. IsVarint 1 (bytes ++ rest) n rest) (sym (group_last 0 n (omega arith))) here
groups_are (suc further) n rest fits small =
    elim (cases_lt n 128) [
      | inl h ↦ subst (λ bytes. IsVarint (suc (suc further)) (bytes ++ rest) n rest)
          (sym (group_last (suc further) n h)) (last h)
      | inr h ↦
          let high : n / 128 < 2 * 128 ^ further = omega (arith, pow-suc 128 further) in
          let inner = groups_are further (n / 128) rest high (omega arith) in
          let step : IsVarint (suc (suc further)) ((n % 128 + 128) ∷ (varint_of_groups further (n / 128) ++ rest))
          (n % 128 + 128 - 128 + 128 * (n / 128)) rest =
          more (omega arith) (omega arith) inner in
          let value : n % 128 + 128 - 128 + 128 * (n / 128) ≡ n = omega arith in
          let at_value = subst (λ v. IsVarint (suc (suc further))
          ((n % 128 + 128) ∷ (varint_of_groups further (n / 128) ++ rest)) v rest) value step in
          subst (λ bytes. IsVarint (suc (suc further)) (bytes ++ rest) n rest) (sym (group_more further n h)) at_value
    ]

pub varint_is : (n : ℕ) (rest : List ℕ) → n < 2 ^ 64 → IsVarint max_varint_len (varint n ++ rest) n rest
varint_is n rest fits = groups_are 9 n rest (omega arith) fits

-- what a payload must be for its record to be read back as it stands: a varint of 64 bits, or bytes behind a length
abbrev pub IsSpelled : Payload → Type 0
IsSpelled (Varint value) = value < 2 ^ 64
IsSpelled (Fixed64 bytes) = ⊥
IsSpelled (Delimited bytes) = Unit {0}
IsSpelled (Fixed32 bytes) = ⊥

pub record IsKnown (f : Field) : Type 0 where
  pub above : 0 < f.number
  pub below : f.number ≤ max_field_number
  pub payload : IsSpelled f.payload

abbrev pub AreKnown : List Field → Type 0
AreKnown [] = Unit {0}
AreKnown (f ∷ fs) = IsKnown f × AreKnown fs

pub AreKnown-append : (fs gs : List Field) → AreKnown fs → AreKnown gs → AreKnown (fs ++ gs)
AreKnown-append [] gs p q = q
AreKnown-append (f ∷ fs) gs p q = (p.0, AreKnown-append fs gs p.1 q)

-- a field's bytes, and what follows, begin with the field
field_is : (k : ℕ) (p : Payload) (rest : List ℕ) → 0 < k → k ≤ max_field_number → IsSpelled p
    → length (record_bytes k p) < 2 ^ 64
    → IsField (record_bytes k p ++ rest) (record { number = k; payload = p }) rest
field_is k (Varint value) rest above below fits short =
    let f : Field = record { number = k; payload = Varint value } in
    let after = varint value ++ rest in
    let tag : IsVarint max_varint_len (varint (8 * k) ++ after) (8 * k + 0) after =
    subst (λ n. IsVarint max_varint_len (varint (8 * k) ++ after) n after) (omega arith)
    (varint_is (8 * k) after (omega arith)) in
    let whole : IsField (varint (8 * k) ++ after) f rest =
    field tag above below (varint_payload (varint_is value rest fits)) in
    subst (λ a. IsField a f rest) (sym (append_assoc (varint (8 * k)) (varint value) rest)) whole
field_is k (Fixed64 bytes) rest above below fits short = absurd fits
field_is k (Delimited bytes) rest above below fits short =
    let f : Field = record { number = k; payload = Delimited bytes } in
    let front = varint (length bytes) in
    let after = front ++ (bytes ++ rest) in
    let count : length bytes < 2 ^ 64 =
    omega (arith, length-append (varint (8 * k + 2)) (front ++ bytes), length-append front bytes) in
    let tag = varint_is (8 * k + 2) after (omega arith) in
    let whole : IsField (varint (8 * k + 2) ++ after) f rest =
    field tag above below (delimited (varint_is (length bytes) (bytes ++ rest) count)) in
    let regroup : varint (8 * k + 2) ++ after ≡ varint (8 * k + 2) ++ (front ++ bytes) ++ rest =
    ap (λ l. varint (8 * k + 2) ++ l) (sym (append_assoc front bytes rest))
    ∙ sym (append_assoc (varint (8 * k + 2)) (front ++ bytes) rest) in
    subst (λ a. IsField a f rest) regroup whole
field_is k (Fixed32 bytes) rest above below fits short = absurd fits

pub fields_are : (fs : List Field) → AreKnown fs → fields_len fs < 2 ^ 64 → HasFields (bytes_of fs) fs
fields_are [] known short = none
fields_are (f ∷ fs) known short =
    let split = length-append (field_bytes f) (bytes_of fs) in
    next (field_is f.number f.payload (bytes_of fs) known.0.above known.0.below known.0.payload (omega (arith, split)))
    (fields_are fs known.1 (omega (arith, split)))
