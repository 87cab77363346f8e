-- Where the fields of a message aren't read to their end: the first record at which no reading goes on.
use Rattle.std.proofs.Common.{◌≡◌, ◌⊎◌, inl, inr, refl, ap, sym, ◌∙◌, subst, ℕ, zero, suc, ◌+◌, ◌-◌, ◌<◌, ◌≤◌, List, []}
use Rattle.std.proofs.Common.{◌*◌, ◌∷◌, ◌++◌, length, Option, Some, None, arith}
use Rattle.std.proofs.lemmas.Option.{same_Some}
use Rattle.std.proofs.lemmas.List.{append-nil, append_assoc}
use Rattle.scip_wire.specs.declared.wire_fault.WireFault.{WireFault}
use Rattle.scip_wire.specs.Fields.{Payload, Field, IsVarint, last, more, IsPayload, varint, fixed64}
use Rattle.scip_wire.specs.Fields.{delimited, fixed32, IsField, field, HasFields, none, next, max_varint_len}
use Rattle.scip_wire.specs.Reading.{field_at, changed, fold_in, fold_at}
use Rattle.scip_wire.specs.Blamed.{field_fault, fold_fault_in, fold_fault}
use Rattle.scip_wire.proofs.ReadingOptionLemmas.{bind_some, bind_at}
use Rattle.scip_wire.proofs.FieldLemmas.{field_found, field_exact, field_falls}
use Rattle.scip_wire.proofs.ReadingFoldLemmas.{fold_goes_on, fold_unread, fold_failed, field_shortens}
use Rattle.scip_wire.proofs.RefusedVarintLemmas.{on_option}
use Rattle.scip_wire.proofs.BlamedFoldLemmas.{fault_goes_on, fault_unread, fault_failed}

-- ---- what is behind a record doesn't matter to it

pub varint_local : {limit value : ℕ} {a b : List ℕ} → IsVarint limit a value b
    → (c : List ℕ) × (a ≡ c ++ b) × ((d : List ℕ) → IsVarint limit (c ++ d) value d)
varint_local (last {byte = byte} small) = (byte ∷ [], refl, λ d. last small)
varint_local (more {byte = byte} large fits v) =
    let h = varint_local v in
    (byte ∷ h.0, ap (λ bytes. byte ∷ bytes) h.1, λ d. more large fits (h.2 d))

payload_local : {type : ℕ} {payload : Payload} {a b : List ℕ} → IsPayload type a payload b
    → (c : List ℕ) × (a ≡ c ++ b) × ((d : List ℕ) → IsPayload type (c ++ d) payload d)
payload_local (varint v) =
    let h = varint_local v in
    (h.0, h.1, λ d. varint (h.2 d))
payload_local (fixed64 {inside = inside} e l) = (inside, e, λ d. fixed64 refl l)
payload_local (delimited {inside = inside} {rest = rest} v) =
    let h = varint_local v in (
      h.0 ++ inside,
      h.1 ∙ sym (append_assoc h.0 inside rest),
      λ d.
          let P : List ℕ → Type 0 = λ l. IsVarint max_varint_len l (length inside) (inside ++ d) in
          delimited (subst P (sym (append_assoc h.0 inside d)) (h.2 (inside ++ d))),
    )
payload_local (fixed32 {inside = inside} e l) = (inside, e, λ d. fixed32 refl l)

field_local : {f : Field} {a b : List ℕ} → IsField a f b
    → (c : List ℕ) × (a ≡ c ++ b) × ((d : List ℕ) → IsField (c ++ d) f d)
field_local (field {number = number} {type = type} {b = b} {c = c} tag above below p) =
    let t = varint_local tag in
    let k = payload_local p in (
      t.0 ++ k.0,
      t.1 ∙ (ap (λ l. t.0 ++ l) k.1 ∙ sym (append_assoc t.0 k.0 c)),
      λ d.
          let P : List ℕ → Type 0 = λ l. IsVarint max_varint_len l (8 * number + type) (k.0 ++ d) in
          field (subst P (sym (append_assoc t.0 k.0 d)) (t.2 (k.0 ++ d))) above below (k.2 d),
    )

field_extends : {f : Field} {a b : List ℕ} → IsField a f b → (d : List ℕ) → IsField (a ++ d) f (b ++ d)
field_extends {f = f} {b = b} h d =
    let l = field_local h in
    subst (λ bytes. IsField bytes f (b ++ d)) (sym (ap (λ bytes. bytes ++ d) l.1 ∙ append_assoc l.0 b d)) (l.2 (b ++ d))

fields_join : {front c : List ℕ} {fields : List Field} {f : Field} → HasFields front fields → IsField c f []
    → HasFields (front ++ c) (fields ++ f ∷ [])
fields_join none h = next h none
fields_join {c = c} (next g gs) h = next (field_extends g c) (fields_join gs h)

-- ---- where a message stops

module _ {S : Type 0} (step : S → Field → Option S) (step_fault : S → (start end : ℕ) → Field → WireFault) (end : ℕ)
    (first : S) where
  changed_more : (fields : List Field) (f : Field) (s t u : S) → changed step fields s ≡ Some t → step t f ≡ Some u
      → changed step (fields ++ f ∷ []) s ≡ Some u
  changed_more [] f s t u e k =
      let same : s ≡ t = same_Some s t e in
      bind_at (step s f) _ u (ap (λ x. step x f) same ∙ k)
  changed_more (g ∷ fields) f s t u e k =
      let h = bind_some (step s g) _ t e in
      bind_at (step s g) _ h.0 h.1 ∙ changed_more fields f h.0 t u h.2 k

  -- The first record at which no reading goes on: it isn't read, or can't be merged into what those in front of it
  -- made.
  pub record Stop (bytes : List ℕ) (fault : WireFault) : Type 0 where
    pub front : List ℕ
    pub back : List ℕ
    pub regrouped : bytes ≡ front ++ back
    pub there : 0 < length back
    pub fields : List Field
    pub has_fields : HasFields front fields
    pub made : S
    pub makes : changed step fields first ≡ Some made
    pub why : ((field_at back ≡ None) × (fault ≡ field_fault (end - length back) back))
        ⊎ ((f : Field) × (rest : List ℕ) × (field_at back ≡ Some (f, rest)) × (step made f ≡ None)
        × (fault ≡ step_fault made (end - length back) (end - length rest) f))

  stops_in : (bound : ℕ) (bytes front back : List ℕ) (fields : List Field) (s : S) → length back ≤ bound
      → bytes ≡ front ++ back → HasFields front fields → changed step fields first ≡ Some s
      → fold_in field_at step bound back s ≡ None
      → Stop bytes (fold_fault_in field_at field_fault step step_fault end bound back s)
  unfolding fold_in fold_fault_in
  stops_in zero bytes front [] fields s small same has makes e = absurd (cc)
  stops_in zero bytes front (byte ∷ back) fields s small same has makes e = absurd (omega (arith, small))
  stops_in (suc bound) bytes front [] fields s small same has makes e = absurd (cc)
  stops_in (suc bound) bytes front (byte ∷ back) fields s small same has makes e =
      on_option (field_at (byte ∷ back))
      (λ unread. rw unread (record {
        front = front;
        back = byte ∷ back;
        regrouped = same;
        there = omega arith;
        fields = fields;
        has_fields = has;
        made = s;
        makes = makes;
        why = inl (unread, refl);
      }))
      (λ x some. on_option (step s x.0)
      (λ unmerged. rw (some, unmerged) (record {
        front = front;
        back = byte ∷ back;
        regrouped = same;
        there = omega arith;
        fields = fields;
        has_fields = has;
        made = s;
        makes = makes;
        why = inr (x.0, x.1, some, unmerged, refl);
      }))
      (λ t merged.
      let f = field_found (byte ∷ back) x some in
      let l = field_local f in
      let c : IsField l.0 x.0 [] = subst (λ bytes. IsField bytes x.0 []) (append-nil l.0) (l.2 []) in
      let shorter : length x.1 < length (byte ∷ back) = field_falls f in
      rw (some, merged) (stops_in bound bytes (front ++ l.0) x.1 (fields ++ x.0 ∷ []) t (omega (arith, small, shorter))
      (same ∙ (ap (λ bytes. front ++ bytes) l.1 ∙ sym (append_assoc front l.0 x.1)))
      (fields_join has c) (changed_more fields x.0 first s t makes merged) (rw (some, merged) at e))))

  pub stops : (bytes : List ℕ) → fold_at field_at step bytes first ≡ None
      → Stop bytes (fold_fault field_at field_fault step step_fault end bytes first)
  unfolding fold_at fold_fault
  stops bytes e = stops_in (length bytes) bytes [] bytes [] first (omega arith) refl none refl e

  -- ---- and the other way round

  past : {front : List ℕ} {fields : List Field} (s t : S) (back : List ℕ) → HasFields front fields
      → changed step fields s ≡ Some t
      → (fold_at field_at step (front ++ back) s ≡ fold_at field_at step back t)
      × (fold_fault field_at field_fault step step_fault end (front ++ back) s
      ≡ fold_fault field_at field_fault step step_fault end back t)
  past s t back none e =
      let same : s ≡ t = same_Some s t e in
      (ap (fold_at field_at step back) same, ap (fold_fault field_at field_fault step step_fault end back) same)
  past s t back (next {bytes = []} f fs) e = absurd (omega (arith, field_falls f))
  past s t back (next {bytes = byte ∷ bytes} {rest = rest} {field = f} {fields = fields} h hs) e =
      let u = bind_some (step s f) _ t e in
      let reads : field_at (byte ∷ (bytes ++ back)) ≡ Some (f, rest ++ back) = field_exact (field_extends h back) in
      let more = past u.0 t back hs u.2 in (
        sym (fold_goes_on field_at step field_shortens byte (bytes ++ back) s u.0 (f, rest ++ back) reads u.1) ∙ more.0,
        sym (fault_goes_on field_at field_fault step step_fault end field_shortens byte (bytes ++ back) s u.0
            (f, rest ++ back) reads u.1) ∙ more.1,
      )

  at_back : (back : List ℕ) (s : S) (fault : WireFault) → 0 < length back
      → (((field_at back ≡ None) × (fault ≡ field_fault (end - length back) back))
      ⊎ ((f : Field) × (rest : List ℕ) × (field_at back ≡ Some (f, rest)) × (step s f ≡ None)
      × (fault ≡ step_fault s (end - length back) (end - length rest) f)))
      → (fold_at field_at step back s ≡ None)
      × (fault ≡ fold_fault field_at field_fault step step_fault end back s)
  at_back [] s fault there why = absurd (omega (arith, there))
  at_back (byte ∷ back) s fault there (inl unread) = (
    fold_unread field_at step byte back s unread.0,
    unread.1 ∙ sym (fault_unread field_at field_fault step step_fault end byte back s unread.0),
  )
  at_back (byte ∷ back) s fault there (inr unmerged) = (
    fold_failed field_at step byte back s (unmerged.0, unmerged.1) unmerged.2 unmerged.3,
    unmerged.4 ∙ sym (fault_failed field_at field_fault step step_fault end byte back s (unmerged.0, unmerged.1)
        unmerged.2 unmerged.3),
  )

  pub stopped : (bytes : List ℕ) (fault : WireFault) → Stop bytes fault
      → (fold_at field_at step bytes first ≡ None)
      × (fault ≡ fold_fault field_at field_fault step step_fault end bytes first)
  stopped bytes fault stop =
      let p = past first stop.made stop.back stop.has_fields stop.makes in
      let b = at_back stop.back stop.made fault stop.there stop.why in (
        ap (λ l. fold_at field_at step l first) stop.regrouped ∙ (p.0 ∙ b.0),
        b.1 ∙ sym (ap (λ l. fold_fault field_at field_fault step step_fault end l first) stop.regrouped ∙ p.1),
      )
