-- The fields of a message part by part: those of one number, then those of the next.
use Rattle.std.proofs.Common.{◌≡◌, ℕ, ℤ, zero, suc, ◌^◌, ◌<◌, ◌≤◌, true, false, cond, nat_eq, List, [], ◌∷◌}
use Rattle.std.proofs.Common.{◌++◌, Option, Some, None, refl, sym, ap, ◌∙◌, arith, append-nil, append_assoc}
use Rattle.std.proofs.Common.{FitsSigned, w32}
use Rattle.std.proofs.lemmas.Bool.{cond-true, cond-false}
use Rattle.std.proofs.lemmas.Bool.Decides.{nat_tests}
use Rattle.scip_records.specs.Range.{RangeNumbers}
use Rattle.scip_wire.specs.Fields.{Field, max_field_number}
use Rattle.scip_wire.specs.Decodes.{payloads}
use Rattle.scip_wire.specs.Spelling.{bytes_field, text_fields, int_fields, number_fields, in_64_bits}
use Rattle.scip_wire.specs.Spelling.{repeated_text_fields, repeated_message_fields, optional_message_fields}
use Rattle.scip_wire.specs.Spelling.{optional_range_fields}
use Rattle.scip_wire.specs.Saturated.{fields_len}
use Rattle.scip_wire.proofs.ReadingOptionLemmas.{split}
use Rattle.scip_wire.proofs.FieldSpelledLemmas.{AreKnown, AreKnown-append}
use Rattle.scip_wire.proofs.DecodesSpelledPayloadLemmas.{payloads-append, other_text, other_texts, other_int}
use Rattle.scip_wire.proofs.DecodesSpelledPayloadLemmas.{other_messages, other_message, other_range, in_64_bits-lt}
use Rattle.scip_wire.proofs.SpellingRefLemmas.{fields_len_append as fields_len-append}

-- ---- the fields of a message are known

pub text_known : (k : ℕ) (t : List ℕ) → 0 < k → k ≤ max_field_number → AreKnown (text_fields k t)
text_known k [] above below = tt
text_known k (b ∷ bs) above below = (record { above = above; below = below; payload = tt }, tt)

pub texts_known : (k : ℕ) (ts : List (List ℕ)) → 0 < k → k ≤ max_field_number → AreKnown (repeated_text_fields k ts)
texts_known k [] above below = tt
texts_known k (t ∷ ts) above below =
    (record { above = above; below = below; payload = tt }, texts_known k ts above below)

number_known : (k v : ℕ) → v < 2 ^ 64 → 0 < k → k ≤ max_field_number → AreKnown (number_fields k v)
number_known k zero fits above below = tt
number_known k (suc v) fits above below = (record { above = above; below = below; payload = fits }, tt)

pub int_known : (k : ℕ) (z : ℤ) → FitsSigned w32 z → 0 < k → k ≤ max_field_number → AreKnown (int_fields k z)
int_known k z fits above below = number_known k (in_64_bits z) (in_64_bits-lt z fits) above below

pub messages_known : {A : Type 0} (fields : A → List Field) (k : ℕ) (xs : List A) → 0 < k → k ≤ max_field_number
    → AreKnown (repeated_message_fields k fields xs)
messages_known fields k [] above below = tt
messages_known fields k (x ∷ xs) above below =
    (record { above = above; below = below; payload = tt }, messages_known fields k xs above below)

pub message_known : {A : Type 0} (fields : A → List Field) (k : ℕ) (o : Option A) → 0 < k → k ≤ max_field_number
    → AreKnown (optional_message_fields k fields o)
message_known fields k None above below = tt
message_known fields k (Some x) above below = (record { above = above; below = below; payload = tt }, tt)

pub range_known : (k : ℕ) (o : Option RangeNumbers) → 0 < k → k ≤ max_field_number → AreKnown (optional_range_fields k o)
range_known k None above below = tt
range_known k (Some r) above below = (record { above = above; below = below; payload = tt }, tt)

-- ---- a message part by part: the fields of one number, then those of the next

pub record Part : Type 0 where
  pub number : ℕ
  pub fields : List Field
  pub of_no_other : (n : ℕ) → nat_eq number n ≡ false → payloads n fields ≡ []
  pub known : AreKnown fields

-- the parts' fields, behind those in front
abbrev pub fields_behind : List Field → List Part → List Field
fields_behind front [] = front
fields_behind front (p ∷ ps) = fields_behind (front ++ p.fields) ps

-- the fields of a number
abbrev pub fields_of : ℕ → List Part → List Field
fields_of n [] = []
fields_of n (p ∷ ps) = cond (nat_eq p.number n) p.fields (fields_of n ps)

-- the numbers rise, from above `least`
abbrev pub Rises : ℕ → List Part → Type 0
Rises least [] = Unit {0}
Rises least (p ∷ ps) = (least < p.number) × Rises p.number ps

pub same_number_of : (a b : ℕ) → nat_eq a b ≡ true → a ≡ b
same_number_of a b e = grind (arith, nat_tests)

other_number_of : (a b : ℕ) → b < a → nat_eq a b ≡ false
other_number_of a b e = grind (arith, nat_tests)

fields_of-above : (n least : ℕ) (ps : List Part) → n ≤ least → Rises least ps → fields_of n ps ≡ []
fields_of-above n least [] h r = refl
fields_of-above n least (p ∷ ps) h r =
    cond-false (nat_eq p.number n) p.fields (fields_of n ps) (other_number_of p.number n (omega (arith, h, r.0)))
    ∙ fields_of-above n p.number ps (omega (arith, h, r.0)) r.1

payloads-first : (n : ℕ) (p : Part) (ps : List Part) → Rises p.number ps
    → payloads n p.fields ++ payloads n (fields_of n ps) ≡ payloads n (fields_of n (p ∷ ps))
payloads-first n p ps r =
    split (nat_eq p.number n)
    (λ is.
    let number : p.number ≡ n = same_number_of p.number n is in
    ap (λ l. payloads n p.fields ++ payloads n l) (fields_of-above n p.number ps (omega (arith, number)) r)
    ∙ append-nil (payloads n p.fields)
    ∙ ap (payloads n) (sym (cond-true (nat_eq p.number n) p.fields (fields_of n ps) is)))
    (λ is_not.
    ap (λ l. l ++ payloads n (fields_of n ps)) (p.of_no_other n is_not)
    ∙ ap (payloads n) (sym (cond-false (nat_eq p.number n) p.fields (fields_of n ps) is_not)))

payloads-behind : (n least : ℕ) (front : List Field) (ps : List Part) → Rises least ps
    → payloads n (fields_behind front ps) ≡ payloads n front ++ payloads n (fields_of n ps)
payloads-behind n least front [] r = sym (append-nil (payloads n front))
payloads-behind n least front (p ∷ ps) r =
    payloads-behind n p.number (front ++ p.fields) ps r.1
    ∙ ap (λ l. l ++ payloads n (fields_of n ps)) (payloads-append n front p.fields)
    ∙ append_assoc (payloads n front) (payloads n p.fields) (payloads n (fields_of n ps))
    ∙ ap (λ l. payloads n front ++ l) (payloads-first n p ps r.1)

-- the payloads of a number are those of its part
pub payloads_in : (n : ℕ) (p : Part) (ps : List Part) → Rises p.number ps
    → payloads n (fields_behind p.fields ps) ≡ payloads n (fields_of n (p ∷ ps))
payloads_in n p ps r = payloads-behind n p.number p.fields ps r ∙ payloads-first n p ps r

pub known_behind : (front : List Field) (ps : List Part) → AreKnown front → AreKnown (fields_behind front ps)
known_behind front [] known = known
known_behind front (p ∷ ps) known = known_behind (front ++ p.fields) ps (AreKnown-append front p.fields known p.known)

pub front_le : (front : List Field) (ps : List Part) → fields_len front ≤ fields_len (fields_behind front ps)
front_le front [] = omega arith
front_le front (p ∷ ps) = omega (arith, fields_len-append front p.fields, front_le (front ++ p.fields) ps)

pub behind_le : (n : ℕ) (front : List Field) (ps : List Part)
    → fields_len (fields_of n ps) ≤ fields_len (fields_behind front ps)
behind_le n front [] = omega arith
behind_le n front (p ∷ ps) =
    let here = front_le (front ++ p.fields) ps in
    let there = behind_le n (front ++ p.fields) ps in
    elim (nat_eq p.number n) as
    (λ b. fields_len (cond b p.fields (fields_of n ps)) ≤ fields_len (fields_behind (front ++ p.fields) ps)) [
      | true ↦ omega (arith, fields_len-append front p.fields, here)
      | false ↦ there
    ]

-- the parts, by kind

abbrev pub text_part : (k : ℕ) → 0 < k → k ≤ max_field_number → List ℕ → Part
text_part k above below t =
    record {
      number = k;
      fields = text_fields k t;
      of_no_other = λ n e. other_text n k t e;
      known = text_known k t above below;
    }

abbrev pub texts_part : (k : ℕ) → 0 < k → k ≤ max_field_number → List (List ℕ) → Part
texts_part k above below ts =
    record {
      number = k;
      fields = repeated_text_fields k ts;
      of_no_other = λ n e. other_texts n k ts e;
      known = texts_known k ts above below;
    }

abbrev pub int_part : (k : ℕ) → 0 < k → k ≤ max_field_number → (z : ℤ) → FitsSigned w32 z → Part
int_part k above below z fits =
    record {
      number = k;
      fields = int_fields k z;
      of_no_other = λ n e. other_int n k z e;
      known = int_known k z fits above below;
    }

abbrev pub message_part : {A : Type 0} (fields : A → List Field) (k : ℕ) → 0 < k → k ≤ max_field_number → Option A → Part
message_part fields k above below o =
    record {
      number = k;
      fields = optional_message_fields k fields o;
      of_no_other = λ n e. other_message fields n k o e;
      known = message_known fields k o above below;
    }

abbrev pub messages_part : {A : Type 0} (fields : A → List Field) (k : ℕ) → 0 < k → k ≤ max_field_number → List A → Part
messages_part fields k above below xs =
    record {
      number = k;
      fields = repeated_message_fields k fields xs;
      of_no_other = λ n e. other_messages fields n k xs e;
      known = messages_known fields k xs above below;
    }

abbrev pub range_part : (k : ℕ) → 0 < k → k ≤ max_field_number → Option RangeNumbers → Part
range_part k above below o =
    record {
      number = k;
      fields = optional_range_fields k o;
      of_no_other = λ n e. other_range n k o e;
      known = range_known k o above below;
    }

abbrev pub bytes_part : (k : ℕ) → 0 < k → k ≤ max_field_number → List ℕ → Part
bytes_part k above below bytes =
    record {
      number = k;
      fields = bytes_field k bytes ∷ [];
      of_no_other = λ n e. rw e refl;
      known = (record { above = above; below = below; payload = tt }, tt);
    }
