-- What the payloads of spelled fields are, and what they give.
use Rattle.std.proofs.Common.{◌≡◌, ℕ, ℤ, pos, negsuc, zero, suc, ◌%◌, ◌^◌, ◌<◌, true, false, cond, nat_eq, List, []}
use Rattle.std.proofs.Common.{◌∷◌, ◌++◌, map, Option, Some, None, refl, sym, ap, ◌∙◌, arith, FitsSigned, All, IsUtf8}
use Rattle.std.specs.Int.{w32, cast_signed}
use Rattle.std.proofs.Common.{to_z, of_z}
use Rattle.std.proofs.lemmas.Int.{to_z-of_z}
use Rattle.std.proofs.lemmas.List.Elements.{All-head, All-tail}
use Rattle.scip_records.specs.Range.{RangeNumbers}
use Rattle.scip_wire.specs.Fields.{Payload, Varint, Delimited, Field}
use Rattle.scip_wire.specs.Decodes.{payloads, Joined, none, next, IsLast, GivesText, text, GivesNumber, signed}
use Rattle.scip_wire.specs.Spelling.{bytes_of, text_fields, int_fields, number_fields, in_64_bits, repeated_text_fields}
use Rattle.scip_wire.specs.Spelling.{repeated_message_fields, optional_message_fields, optional_range_fields}

-- ---- the payloads of spelled fields

pub payloads-append : (n : ℕ) (fs gs : List Field) → payloads n (fs ++ gs) ≡ payloads n fs ++ payloads n gs
payloads-append n [] gs = refl
payloads-append n (f ∷ fs) gs =
    elim (nat_eq f.number n) as
    (λ b. cond b (f.payload ∷ payloads n (fs ++ gs)) (payloads n (fs ++ gs))
    ≡ cond b (f.payload ∷ payloads n fs) (payloads n fs) ++ payloads n gs) [
      | true ↦ ap (λ l. f.payload ∷ l) (payloads-append n fs gs)
      | false ↦ payloads-append n fs gs
    ]

-- those of another number
pub other_text : (n k : ℕ) (t : List ℕ) → nat_eq k n ≡ false → payloads n (text_fields k t) ≡ []
other_text n k [] e = refl
other_text n k (b ∷ bs) e = rw e refl

pub other_texts : (n k : ℕ) (ts : List (List ℕ)) → nat_eq k n ≡ false → payloads n (repeated_text_fields k ts) ≡ []
other_texts n k [] e = refl
other_texts n k (t ∷ ts) e = rw e (other_texts n k ts e)

other_number : (n k v : ℕ) → nat_eq k n ≡ false → payloads n (number_fields k v) ≡ []
other_number n k zero e = refl
other_number n k (suc v) e = rw e refl

pub other_messages : {A : Type 0} (fields : A → List Field) (n k : ℕ) (xs : List A) → nat_eq k n ≡ false
    → payloads n (repeated_message_fields k fields xs) ≡ []
other_messages fields n k [] e = refl
other_messages fields n k (x ∷ xs) e = rw e (other_messages fields n k xs e)

pub other_message : {A : Type 0} (fields : A → List Field) (n k : ℕ) (o : Option A) → nat_eq k n ≡ false
    → payloads n (optional_message_fields k fields o) ≡ []
other_message fields n k None e = refl
other_message fields n k (Some x) e = rw e refl

pub other_range : (n k : ℕ) (o : Option RangeNumbers) → nat_eq k n ≡ false → payloads n (optional_range_fields k o) ≡ []
other_range n k None e = refl
other_range n k (Some r) e = rw e refl

-- those of this number
abbrev pub number_payloads : ℕ → List Payload
number_payloads zero = []
number_payloads (suc v) = Varint (suc v) ∷ []

same_number : (k v : ℕ) → nat_eq k k ≡ true → payloads k (number_fields k v) ≡ number_payloads v
same_number k zero e = refl
same_number k (suc v) e = rw e refl

pub same_messages : {A : Type 0} (fields : A → List Field) (k : ℕ) (xs : List A) → nat_eq k k ≡ true
    → payloads k (repeated_message_fields k fields xs) ≡ map (λ x. Delimited (bytes_of (fields x))) xs
same_messages fields k [] e = refl
same_messages fields k (x ∷ xs) e = rw e (ap (λ l. Delimited (bytes_of (fields x)) ∷ l) (same_messages fields k xs e))

abbrev pub text_payloads : List ℕ → List Payload
text_payloads [] = []
text_payloads (b ∷ bs) = Delimited (b ∷ bs) ∷ []

pub same_text : (k : ℕ) (t : List ℕ) → nat_eq k k ≡ true → payloads k (text_fields k t) ≡ text_payloads t
same_text k [] e = refl
same_text k (b ∷ bs) e = rw e refl

pub same_texts : (k : ℕ) (ts : List (List ℕ)) → nat_eq k k ≡ true
    → payloads k (repeated_text_fields k ts) ≡ map Delimited ts
same_texts k [] e = refl
same_texts k (t ∷ ts) e = rw e (ap (λ l. Delimited t ∷ l) (same_texts k ts e))

-- ---- what they give

pub text_given : (t : List ℕ) → IsUtf8 t → IsLast [] (Joined GivesText (text_payloads t)) t
text_given [] utf8 = record { values = []; are_values = none; is_last = refl }
text_given (b ∷ bs) utf8 = record { values = (b ∷ bs) ∷ []; are_values = next (text utf8) none; is_last = refl }

pub texts_given : (ts : List (List ℕ)) → All IsUtf8 ts → Joined GivesText (map Delimited ts) ts
texts_given [] utf8 = none
texts_given (t ∷ ts) utf8 = next (text (All-head IsUtf8 t ts utf8)) (texts_given ts (All-tail IsUtf8 t ts utf8))

pub other_int : (n k : ℕ) (z : ℤ) → nat_eq k n ≡ false → payloads n (int_fields k z) ≡ []
other_int n k z e = other_number n k (in_64_bits z) e

-- ---- the payload of a number

pub same_int : (k : ℕ) (z : ℤ) → nat_eq k k ≡ true → payloads k (int_fields k z) ≡ number_payloads (in_64_bits z)
same_int k z e = same_number k (in_64_bits z) e

number_given : (v : ℕ) (z : ℤ) → (v ≡ 0 → z ≡ pos 0) → (0 < v → z ≡ cast_signed w32 (v % 2 ^ 32))
    → IsLast (pos 0) (Joined GivesNumber (number_payloads v)) z
number_given zero z absent_one given = record { values = []; are_values = none; is_last = absent_one refl }
number_given (suc v) z absent_one given =
    record {
      values = cast_signed w32 (suc v % 2 ^ 32) ∷ [];
      are_values = next signed none;
      is_last = given (omega arith);
    }

-- the low 32 bits of a number in 64 bits
low_bits : (z : ℤ) → FitsSigned w32 z → in_64_bits z % 2 ^ 32 ≡ of_z w32 z
low_bits (pos n) fits = omega arith
low_bits (negsuc n) fits = omega arith

in_64_bits-zero : (z : ℤ) → FitsSigned w32 z → in_64_bits z ≡ 0 → z ≡ pos 0
in_64_bits-zero (pos n) fits e = ap pos e
in_64_bits-zero (negsuc n) fits e = absurd (omega arith)

pub in_64_bits-lt : (z : ℤ) → FitsSigned w32 z → in_64_bits z < 2 ^ 64
in_64_bits-lt (pos n) fits = omega arith
in_64_bits-lt (negsuc n) fits = omega arith

pub int_given : (z : ℤ) → FitsSigned w32 z → IsLast (pos 0) (Joined GivesNumber (number_payloads (in_64_bits z))) z
int_given z fits =
    number_given (in_64_bits z) z (in_64_bits-zero z fits)
    (λ _. sym (ap (to_z w32) (low_bits z fits) ∙ to_z-of_z w32 z fits))
