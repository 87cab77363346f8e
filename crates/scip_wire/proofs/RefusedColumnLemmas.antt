-- Where a field can't be merged into a message: which of its parts refuses it, and why.
use Rattle.std.proofs.Common.{◌≡◌, ◌⊎◌, inl, inr, refl, sym, ◌∙◌, ℕ, true, List}
use Rattle.std.proofs.Common.{Option, Some, None}
use Rattle.std.specs.Prelude.{nat_eq}
use Rattle.std.specs.Str.{is_utf8}
use Rattle.std.proofs.lemmas.Bool.{eqb-true}
use Rattle.std.proofs.lemmas.Str.{IsUtf8-from_is_utf8, is_utf8-from_IsUtf8}
use Rattle.std.proofs.lemmas.Option.{none-some}
use Rattle.scip_wire.specs.declared.wire_fault.WireFault.{WireFault}
use Rattle.scip_wire.specs.declared.wire_fault.WireFault.TheVariants.{Utf8}
use Rattle.scip_wire.specs.Fields.{Payload, Varint, Fixed64, Delimited, Fixed32, Field}
use Rattle.scip_wire.specs.Reading.{◌>>=◌, both, parted, column, add_only, message_in, text_at}
use Rattle.scip_wire.specs.Refused.{NoText, not_utf8, NoInner, NoOnly, again}
use Rattle.scip_wire.specs.Blamed.{inner_fault, only_fault}
use Rattle.scip_wire.proofs.ReadingOptionLemmas.{split}
use Rattle.scip_wire.proofs.RefusedVarintLemmas.{on_option}
use Rattle.scip_wire.proofs.RefusedFieldLemmas.{nothing}

-- ---- parts of a message

module _ {S T A : Type 0} (left : S → A → Option S) (right : T → A → Option T) where
  pub both_none : (s : S × T) (x : A) → both left right s x ≡ None → (left s.0 x ≡ None) ⊎ (right s.1 x ≡ None)
  unfolding both
  both_none s x e =
      on_option (left s.0 x) (λ none. inl none)
      (λ a some. on_option (right s.1 x) (λ none. inr none)
      (λ b other. absurd (none-some _ (sym (rw (some, other) at e)))))

  pub left_none : (s : S × T) (x : A) → left s.0 x ≡ None → both left right s x ≡ None
  unfolding both
  left_none s x e = rw e refl

  pub right_none : (s : S × T) (x : A) → right s.1 x ≡ None → both left right s x ≡ None
  unfolding both
  right_none s x e = on_option (left s.0 x) (λ none. rw none refl) (λ a some. rw (some, e) refl)

module _ {S T A : Type 0} (parts : S → T) (whole : T → S) (step : T → A → Option T) where
  pub parted_none : (s : S) (x : A) → parted parts whole step s x ≡ None → step (parts s) x ≡ None
  unfolding parted
  parted_none s x e = nothing (step (parts s) x) whole e

  pub none_parted : (s : S) (x : A) → step (parts s) x ≡ None → parted parts whole step s x ≡ None
  unfolding parted
  none_parted s x e = rw e refl

module _ {S A : Type 0} (add : S → List A → Option S) (values : Payload → Option (List A)) (number : ℕ) where
  pub column_none : (s : S) (f : Field) → column add values number s f ≡ None
      → (f.number ≡ number) × ((values f.payload >>= add s) ≡ None)
  unfolding column
  column_none s f e =
      split (nat_eq f.number number)
      (λ is. (eqb-true f.number number is, rw is at e))
      (λ is_not. absurd (none-some _ (sym (rw is_not at e))))

  pub none_in_column : (s : S) (f : Field) → nat_eq f.number number ≡ true → (values f.payload >>= add s) ≡ None
      → column add values number s f ≡ None
  unfolding column
  none_in_column s f is e = rw is e

  -- where values can always be added
  pub values_none : ((s : S) (xs : List A) → (t : S) × (add s xs ≡ Some t)) → (s : S) (f : Field)
      → column add values number s f ≡ None → (f.number ≡ number) × (values f.payload ≡ None)
  values_none total s f e =
      let h = column_none s f e in (
        h.0,
        on_option (values f.payload) (λ none. none)
            (λ xs some. absurd (none-some _ (sym (rw some at h.1) ∙ (total s xs).1))),
      )

-- ---- texts

pub text_refused : (start : ℕ) (payload : Payload) → message_in text_at payload ≡ None
    → NoText start payload (Utf8 start)
unfolding text_at
text_refused start (Delimited bytes) e =
    split (is_utf8 bytes)
    (λ is. absurd (none-some _ (sym (rw is at e))))
    (λ is_not. not_utf8 (λ utf8. absurd (let is = is_utf8-from_IsUtf8 bytes utf8 in cc)))
text_refused start (Varint value) e = absurd (cc)
text_refused start (Fixed64 bytes) e = absurd (cc)
text_refused start (Fixed32 bytes) e = absurd (cc)

pub text_blamed : {start : ℕ} {payload : Payload} {fault : WireFault} → NoText start payload fault
    → (message_in text_at payload ≡ None) × (fault ≡ Utf8 start)
unfolding text_at
text_blamed (not_utf8 {bytes = bytes} h) =
    split (is_utf8 bytes)
    (λ is. absurd (h (IsUtf8-from_is_utf8 bytes is)))
    (λ is_not. (rw is_not refl, refl))

-- ---- messages inside

module _ {A : Type 0} (read : List ℕ → Option A) (faults : (end : ℕ) → List ℕ → WireFault)
    (Refused : (end : ℕ) → List ℕ → WireFault → Type 0) where
  module _ (refused : (end : ℕ) (bytes : List ℕ) → read bytes ≡ None
      → Refused end bytes (faults end bytes)) where
    pub inner_refused : (end : ℕ) (payload : Payload) → message_in read payload ≡ None
        → NoInner Refused end payload (inner_fault faults end payload)
    inner_refused end (Delimited bytes) e = NoInner.inside (refused end bytes (nothing (read bytes) _ e))
    inner_refused end (Varint value) e = absurd (cc)
    inner_refused end (Fixed64 bytes) e = absurd (cc)
    inner_refused end (Fixed32 bytes) e = absurd (cc)

    pub only_refused : (start end : ℕ) (earlier : Option A) (payload : Payload)
        → (message_in read payload >>= add_only earlier) ≡ None
        → NoOnly Refused start end earlier payload (only_fault faults start end earlier payload)
    only_refused start end None (Delimited bytes) e =
        NoOnly.inside (refused end bytes (on_option (read bytes) (λ none. none)
        (λ x some. absurd (none-some _ (sym (rw some at e))))))
    only_refused start end (Some earlier) (Delimited bytes) e = again
    only_refused start end None (Varint value) e = absurd (cc)
    only_refused start end None (Fixed64 bytes) e = absurd (cc)
    only_refused start end None (Fixed32 bytes) e = absurd (cc)
    only_refused start end (Some earlier) (Varint value) e = absurd (cc)
    only_refused start end (Some earlier) (Fixed64 bytes) e = absurd (cc)
    only_refused start end (Some earlier) (Fixed32 bytes) e = absurd (cc)

  module _ (blamed : (end : ℕ) (bytes : List ℕ) (fault : WireFault) → Refused end bytes fault
      → (read bytes ≡ None) × (fault ≡ faults end bytes)) where
    pub inner_blamed : {end : ℕ} {payload : Payload} {fault : WireFault} → NoInner Refused end payload fault
        → (message_in read payload ≡ None) × (fault ≡ inner_fault faults end payload)
    inner_blamed {end = end} (NoInner.inside {bytes = bytes} {fault = fault} r) =
        let h = blamed end bytes fault r in
        (rw h.0 refl, h.1)

    pub only_blamed : {start end : ℕ} {earlier : Option A} {payload : Payload} {fault : WireFault}
        → NoOnly Refused start end earlier payload fault
        → ((message_in read payload >>= add_only earlier) ≡ None)
        × (fault ≡ only_fault faults start end earlier payload)
    only_blamed (again {bytes = bytes}) =
        (on_option (read bytes) (λ none. rw none refl) (λ x some. rw some refl), refl)
    only_blamed {end = end} (NoOnly.inside {bytes = bytes} {fault = fault} r) =
        let h = blamed end bytes fault r in
        (rw h.0 refl, h.1)
