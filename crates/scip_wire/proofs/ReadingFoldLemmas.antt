-- `fold_at`, `both` and `parted`: over the items that a reader finds in bytes, and over parts of a whole.
use Rattle.std.proofs.Common.{◌≡◌, refl, ap, sym, ◌∙◌, subst, ℕ, zero, suc, ◌+◌, ◌<◌, ◌≤◌, Bool, true, false, List, []}
use Rattle.std.proofs.Common.{◌∷◌, length, Option, Some, None, arith}
use Rattle.std.specs.Prelude.{◌==◌}
use Rattle.std.proofs.lemmas.Bool.{eqb-true}
use Rattle.scip_wire.specs.declared.wire_fault.WireFault.{WireFault}
use Rattle.scip_wire.specs.declared.read.field.Payload.{Payload}
use Rattle.scip_wire.specs.declared.read.field.Payload.TheVariants
use Rattle.scip_wire.specs.Gives.{Fails}
use Rattle.scip_wire.specs.Views.{payload_len, payload_view}
use Rattle.std.proofs.lemmas.Option.{same_Some}
use Rattle.scip_wire.specs.Fields.{Field, IsField, field as one_field, HasFields, none, next}
use Rattle.scip_wire.specs.Reading.{field_at, changed, fold_in, fold_at, both, parted}
use Rattle.scip_wire.proofs.ReadingOptionLemmas.{bind_some, bind_at, bind_none, bind_same}
use Rattle.scip_wire.proofs.FieldLemmas.{field_found, field_exact, field_falls, payload_falls, payload_length}
use Rattle.scip_wire.proofs.FieldLemmas.{varint_falls}
use Rattle.scip_wire.proofs.GivesLemmas.{fails_too}

-- ---- over bytes

module _ {S A : Type 0} (read : List ℕ → Option (A × List ℕ)) (step : S → A → Option S)
    (falls : (bytes : List ℕ) (x : A × List ℕ) → read bytes ≡ Some x → length x.1 < length bytes) where
  -- a greater bound than the number of bytes changes nothing
  pub fold_enough : (n m : ℕ) (bytes : List ℕ) (s : S) → length bytes ≤ n → length bytes ≤ m
      → fold_in read step n bytes s ≡ fold_in read step m bytes s
  unfolding fold_in
  fold_enough zero zero [] s h k = refl
  fold_enough zero (suc m) [] s h k = refl
  fold_enough (suc n) zero [] s h k = refl
  fold_enough (suc n) (suc m) [] s h k = refl
  fold_enough zero m (byte ∷ bytes) s h k = absurd (omega arith)
  fold_enough (suc n) zero (byte ∷ bytes) s h k = absurd (omega arith)
  fold_enough (suc n) (suc m) (byte ∷ bytes) s h k =
      bind_same (read (byte ∷ bytes)) _ _ (λ x e.
      let l : length x.1 < length (byte ∷ bytes) = falls (byte ∷ bytes) x e in
      bind_same (step s x.0) _ _ (λ t _. fold_enough n m x.1 t (omega arith) (omega arith)))

  pub fold_goes_on : (byte : ℕ) (bytes : List ℕ) (s t : S) (x : A × List ℕ)
      → read (byte ∷ bytes) ≡ Some x → step s x.0 ≡ Some t
      → fold_at read step x.1 t ≡ fold_at read step (byte ∷ bytes) s
  unfolding fold_in fold_at
  fold_goes_on byte bytes s t x e k =
      let l : length x.1 < length (byte ∷ bytes) = falls (byte ∷ bytes) x e in
      rw (e, k) (fold_enough (length x.1) (length bytes) x.1 t (omega arith) (omega arith))

module _ {S A : Type 0} (read : List ℕ → Option (A × List ℕ)) (step : S → A → Option S) where
  pub fold_done : (s : S) → fold_at read step [] s ≡ Some s
  unfolding fold_in fold_at
  fold_done s = refl

  -- it ends where an item can't be read, and where a step fails
  pub fold_unread : (byte : ℕ) (bytes : List ℕ) (s : S) → read (byte ∷ bytes) ≡ None
      → fold_at read step (byte ∷ bytes) s ≡ None
  unfolding fold_in fold_at
  fold_unread byte bytes s e = bind_none (read (byte ∷ bytes)) _ e

  pub fold_failed : (byte : ℕ) (bytes : List ℕ) (s : S) (x : A × List ℕ)
      → read (byte ∷ bytes) ≡ Some x → step s x.0 ≡ None → fold_at read step (byte ∷ bytes) s ≡ None
  unfolding fold_in fold_at
  fold_failed byte bytes s x e k = rw (e, k) refl

-- ---- over the fields of bytes

pub field_shortens : (bytes : List ℕ) (x : Field × List ℕ) → field_at bytes ≡ Some x → length x.1 < length bytes
field_shortens bytes x e = field_falls (field_found bytes x e)

module _ {S : Type 0} (step : S → Field → Option S) where
  fields_in_found : (bound : ℕ) (bytes : List ℕ) (s t : S) → fold_in field_at step bound bytes s ≡ Some t
      → (fields : List Field) × (HasFields bytes fields) × (changed step fields s ≡ Some t)
  unfolding fold_in
  fields_in_found zero [] s t e = ([], none, e)
  fields_in_found (suc bound) [] s t e = ([], none, e)
  fields_in_found zero (byte ∷ bytes) s t e = absurd (cc)
  fields_in_found (suc bound) (byte ∷ bytes) s t e =
      let x = bind_some (field_at (byte ∷ bytes)) _ t e in
      let u = bind_some (step s x.0.0) _ t x.2 in
      let h = fields_in_found bound x.0.1 u.0 t u.2 in
      (x.0.0 ∷ h.0, next (field_found (byte ∷ bytes) x.0 x.1) h.1, bind_at (step s x.0.0) _ u.0 u.1 ∙ h.2)

  pub fields_found : (bytes : List ℕ) (s t : S) → fold_at field_at step bytes s ≡ Some t
      → (fields : List Field) × (HasFields bytes fields) × (changed step fields s ≡ Some t)
  unfolding fold_at
  fields_found bytes s t e = fields_in_found (length bytes) bytes s t e

  pub fields_exact : {bytes : List ℕ} {fields : List Field} → HasFields bytes fields → (s t : S)
      → changed step fields s ≡ Some t → fold_at field_at step bytes s ≡ Some t
  fields_exact none s t e = fold_done field_at step s ∙ e
  fields_exact (next {bytes = []} f fs) s t e = absurd (omega (arith, field_falls f))
  fields_exact (next {bytes = byte ∷ bytes} {rest = rest} {field = field} {fields = fields} f fs) s t e =
      let u = bind_some (step s field) _ t e in
      sym (fold_goes_on field_at step field_shortens byte bytes s u.0 (field, rest) (field_exact f) u.1)
      ∙ fields_exact fs u.0 t u.2

-- bytes have at most one field list
pub same_fields : {bytes : List ℕ} {fields others : List Field} → HasFields bytes fields → HasFields bytes others
    → fields ≡ others
same_fields none none = refl
same_fields none (next f fs) = absurd (omega (arith, field_falls f))
same_fields (next f fs) none = absurd (omega (arith, field_falls f))
same_fields (next {rest = rest} {field = x} {fields = xs} f fs) (next {rest = after} {field = y} {fields = ys} g gs) =
    let same : (x, rest) ≡ (y, after) = same_Some (x, rest) (y, after) (sym (field_exact f) ∙ field_exact g) in
    let tails = same_fields fs (subst (λ (p : Field × List ℕ). HasFields p.1 ys) (sym same) gs) in
    rw (ap (λ (p : Field × List ℕ). p.0) same, tails) refl

-- ---- over parts

module _ {S T A : Type 0} (left : S → A → Option S) (right : T → A → Option T) where
  pub both_found : (xs : List A) (s t : S × T) → changed (both left right) xs s ≡ Some t
      → (changed left xs s.0 ≡ Some t.0) × (changed right xs s.1 ≡ Some t.1)
  unfolding both
  both_found [] s t e = let same = same_Some s t e in (rw same refl, rw same refl)
  both_found (x ∷ xs) s t e =
      let u = bind_some (both left right s x) _ t e in
      let a = bind_some (left s.0 x) _ u.0 u.1 in
      let b = bind_some (right s.1 x) _ u.0 a.2 in
      let same : (a.0, b.0) ≡ u.0 = same_Some (a.0, b.0) u.0 b.2 in
      let h = both_found xs u.0 t u.2 in (
        bind_at (left s.0 x) _ a.0 a.1 ∙ (ap (λ (p : S × T). changed left xs p.0) same ∙ h.0),
        bind_at (right s.1 x) _ b.0 b.1 ∙ (ap (λ (p : S × T). changed right xs p.1) same ∙ h.1),
      )

  pub both_exact : (xs : List A) (a c : S) (b d : T) → changed left xs a ≡ Some c → changed right xs b ≡ Some d
      → changed (both left right) xs (a, b) ≡ Some (c, d)
  unfolding both
  both_exact [] a c b d e f = rw (same_Some a c e, same_Some b d f) refl
  both_exact (x ∷ xs) a c b d e f =
      let s = bind_some (left a x) _ c e in
      let t = bind_some (right b x) _ d f in
      rw (s.1, t.1) (both_exact xs s.0 c t.0 d s.2 t.2)

module _ {S T A : Type 0} (parts : S → T) (whole : T → S) (step : T → A → Option T) where
  pub parted_found : ((t : T) → parts (whole t) ≡ t) → (xs : List A) (s t : S)
      → changed (parted parts whole step) xs s ≡ Some t → changed step xs (parts s) ≡ Some (parts t)
  unfolding parted
  parted_found back [] s t e = ap (λ x. Some (parts x)) (same_Some s t e)
  parted_found back (x ∷ xs) s t e =
      let u = bind_some (parted parts whole step s x) _ t e in
      let p = bind_some (step (parts s) x) _ u.0 u.1 in
      let same : p.0 ≡ parts u.0 = sym (back p.0) ∙ ap parts (same_Some (whole p.0) u.0 p.2) in
      bind_at (step (parts s) x) _ p.0 p.1 ∙ (ap (changed step xs) same ∙ parted_found back xs u.0 t u.2)

  pub parted_exact : ((t : T) → parts (whole t) ≡ t) → ((s : S) → whole (parts s) ≡ s) → (xs : List A) (s t : S)
      → changed step xs (parts s) ≡ Some (parts t) → changed (parted parts whole step) xs s ≡ Some t
  unfolding parted
  parted_exact back forth [] s t e = ap Some (sym (forth s) ∙ (ap whole (same_Some (parts s) (parts t) e) ∙ forth t))
  parted_exact back forth (x ∷ xs) s t e =
      let p = bind_some (step (parts s) x) _ (parts t) e in
      rw p.1 (parted_exact back forth xs (whole p.0) t (ap (changed step xs) (back p.0) ∙ p.2))

-- ---- a turn of a loop over the items that a reader finds in bytes

-- bytes that aren't empty
pub there_are : (bytes : List ℕ) (empty : Bool) → empty ≡ (length bytes == 0) → empty ≡ false
    → (byte : ℕ) × (rest : List ℕ) × (bytes ≡ byte ∷ rest)
there_are [] empty e f = absurd (cc)
there_are (byte ∷ rest) empty e f = (byte, rest, refl)

pub there_are_none : (bytes : List ℕ) (empty : Bool) → empty ≡ (length bytes == 0) → empty ≡ true → bytes ≡ []
there_are_none [] empty e t = refl
there_are_none (byte ∷ rest) empty e t =
    absurd (let h : length (byte ∷ rest) ≡ 0 = eqb-true _ 0 (sym e ∙ t) in omega arith)

module _ {S A : Type 0} (read : List ℕ → Option (A × List ℕ)) (step : S → A → Option S) (bytes : List ℕ) (s : S)
    (empty : Bool) (known : empty ≡ (length bytes == 0)) where
  pub goes_on : ((bytes : List ℕ) (x : A × List ℕ) → read bytes ≡ Some x → length x.1 < length bytes)
      → empty ≡ false → (x : A) (rest : List ℕ) (t : S) → read bytes ≡ Some (x, rest) → step s x ≡ Some t
      → fold_at read step rest t ≡ fold_at read step bytes s
  goes_on falls f x rest t e k =
      let b = there_are bytes empty known f in
      fold_goes_on read step falls b.0 b.1 s t (x, rest) (ap read (sym b.2) ∙ e) k
      ∙ ap (λ l. fold_at read step l s) (sym b.2)

  pub unread : empty ≡ false → (e : WireFault) (all : Option S) → fold_at read step bytes s ≡ all → Fails e (read bytes)
      → Fails e all
  unread f e all same fails =
      let b = there_are bytes empty known f in
      fails_too e (read bytes) all
      (λ none. sym same ∙ (ap (λ l. fold_at read step l s) b.2
      ∙ fold_unread read step b.0 b.1 s (ap read (sym b.2) ∙ none))) fails

  pub failed : empty ≡ false → (e : WireFault) (all : Option S) (x : A) (rest : List ℕ)
      → fold_at read step bytes s ≡ all
      → read bytes ≡ Some (x, rest) → Fails e (step s x) → Fails e all
  failed f e all x rest same k fails =
      let b = there_are bytes empty known f in
      fails_too e (step s x) all
      (λ none. sym same ∙ (ap (λ l. fold_at read step l s) b.2
      ∙ fold_failed read step b.0 b.1 s (x, rest) (ap read (sym b.2) ∙ k) none)) fails

  pub is_done : empty ≡ true → (all : Option S) → fold_at read step bytes s ≡ all → all ≡ Some s
  is_done t all same = sym same
      ∙ (ap (λ l. fold_at read step l s) (there_are_none bytes empty known t) ∙ fold_done read step s)

len_of_view : (payload : Payload) → payload_length (payload_view payload) ≡ payload_len payload
unfolding payload_length
len_of_view (TheVariants.Varint value) = refl
len_of_view (TheVariants.Fixed64 bytes) = refl
len_of_view (TheVariants.Delimited bytes) = refl
len_of_view (TheVariants.Fixed32 bytes) = refl

field_fits : {bytes rest : List ℕ} {x : Field} → IsField bytes x rest
    → payload_length x.payload + length rest ≤ length bytes
field_fits (one_field tag above below p) = omega (arith, varint_falls tag, payload_falls p)

-- a payload lies inside the bytes
pub payload_fits : (bytes rest : List ℕ) (number : ℕ) (payload : Payload)
    → field_at bytes ≡ Some (record { number = number; payload = payload_view payload }, rest)
    → payload_len payload + length rest ≤ length bytes
payload_fits bytes rest number payload e = rw (← len_of_view payload) (field_fits (field_found bytes _ e))
