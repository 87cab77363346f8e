-- Where the numbers of a packed range aren't read to their end: the first number at which no reading goes on.
use Rattle.std.proofs.Common.{◌≡◌, refl, ap, sym, ◌∙◌, subst, ℕ, zero, suc, ◌<◌, ◌≤◌, List, [], ◌∷◌, ◌++◌}
use Rattle.std.proofs.Common.{length, None, arith}
use Rattle.std.proofs.lemmas.List.{append-nil, append_assoc}
use Rattle.scip_wire.specs.declared.wire_fault.WireFault.{WireFault}
use Rattle.scip_wire.specs.Fields.{Payload, Varint, Fixed64, Delimited, Fixed32, IsVarint, max_varint_len}
use Rattle.scip_wire.specs.Decodes.{ArePacked, low_32_bits}
use Rattle.scip_wire.specs.Reading.{varint_at, fold_in, fold_at, packed_step, packed_at, numbers_in}
use Rattle.scip_wire.specs.Refused.{NoVarint, NoNumbers, packed}
use Rattle.scip_wire.specs.Blamed.{varint_fault, no_step_fault, fold_fault_in, fold_fault, packed_fault, inner_fault}
use Rattle.scip_wire.proofs.ReadingOptionLemmas.{bind_none}
use Rattle.scip_wire.proofs.FieldLemmas.{varint_found, varint_exact, varint_falls}
use Rattle.scip_wire.proofs.ReadingFoldLemmas.{fold_goes_on, fold_unread}
use Rattle.scip_wire.proofs.DecodesLemmas.{varint_shortens, fold_of_packed}
use Rattle.scip_wire.proofs.RefusedVarintLemmas.{on_option, varint_refused, varint_blamed}
use Rattle.scip_wire.proofs.RefusedMessageLemmas.{varint_local}
use Rattle.scip_wire.proofs.BlamedFoldLemmas.{fault_goes_on, fault_unread}

varint_extends : {limit value : ℕ} {a b : List ℕ} → IsVarint limit a value b → (d : List ℕ)
    → IsVarint limit (a ++ d) value (b ++ d)
varint_extends {limit = limit} {value = value} {b = b} v d =
    let l = varint_local v in
    subst (λ bytes. IsVarint limit bytes value (b ++ d)) (sym (ap (λ bytes. bytes ++ d) l.1 ∙ append_assoc l.0 b d))
    (l.2 (b ++ d))

packed_join : {front c numbers : List ℕ} {value : ℕ} → ArePacked front numbers → IsVarint max_varint_len c value []
    → ArePacked (front ++ c) (numbers ++ low_32_bits value ∷ [])
packed_join ArePacked.none v = ArePacked.next v ArePacked.none
packed_join {c = c} (ArePacked.next w more) v = ArePacked.next (varint_extends w c) (packed_join more v)

module _ (start : ℕ) where
  packed_stops_in : (bound : ℕ) (bytes front back numbers s : List ℕ) → length back ≤ bound → bytes ≡ front ++ back
      → ArePacked front numbers → fold_in (varint_at max_varint_len) packed_step bound back s ≡ None
      → NoNumbers start (Delimited bytes)
      (fold_fault_in (varint_at max_varint_len) (λ _. varint_fault start max_varint_len) packed_step no_step_fault 0
      bound back s)
  unfolding fold_in fold_fault_in packed_step
  packed_stops_in zero bytes front [] numbers s small same are e = absurd (cc)
  packed_stops_in zero bytes front (byte ∷ back) numbers s small same are e = absurd (omega (arith, small))
  packed_stops_in (suc bound) bytes front [] numbers s small same are e = absurd (cc)
  packed_stops_in (suc bound) bytes front (byte ∷ back) numbers s small same are e =
      on_option (varint_at max_varint_len (byte ∷ back))
      (λ unread. rw unread
      (packed same are (omega arith) (varint_refused start max_varint_len (byte ∷ back) unread)))
      (λ x some.
      let v = varint_found max_varint_len (byte ∷ back) x some in
      let l = varint_local v in
      let c = subst (λ bytes. IsVarint max_varint_len bytes x.0 []) (append-nil l.0) (l.2 []) in
      let shorter : length x.1 < length (byte ∷ back) = varint_falls v in
      rw some (packed_stops_in bound bytes (front ++ l.0) x.1 (numbers ++ low_32_bits x.0 ∷ [])
      (s ++ low_32_bits x.0 ∷ []) (omega (arith, small, shorter))
      (same ∙ (ap (λ bytes. front ++ bytes) l.1 ∙ sym (append_assoc front l.0 x.1)))
      (packed_join are c) (rw some at e)))

  packed_stops : (bytes s : List ℕ) → fold_at (varint_at max_varint_len) packed_step bytes s ≡ None
      → NoNumbers start (Delimited bytes) (packed_fault start bytes s)
  unfolding fold_at fold_fault packed_fault
  packed_stops bytes s e = packed_stops_in (length bytes) bytes [] bytes [] s (omega arith) refl ArePacked.none e

  packed_past : {front numbers : List ℕ} (s back : List ℕ) → ArePacked front numbers
      → (fold_at (varint_at max_varint_len) packed_step (front ++ back) s
      ≡ fold_at (varint_at max_varint_len) packed_step back (s ++ numbers))
      × (packed_fault start (front ++ back) s ≡ packed_fault start back (s ++ numbers))
  unfolding packed_step packed_fault
  packed_past s back ArePacked.none =
      let same = sym (append-nil s) in
      (ap (fold_at (varint_at max_varint_len) packed_step back) same, ap (packed_fault start back) same)
  packed_past s back (ArePacked.next {bytes = []} v vs) = absurd (omega (arith, varint_falls v))
  packed_past s back (ArePacked.next {bytes = byte ∷ bytes} {rest = rest} {value = value} {numbers = numbers} v vs) =
      let t = s ++ low_32_bits value ∷ [] in
      let reads = varint_exact (varint_extends v back) in
      let more = packed_past t back vs in
      let same = append_assoc s (low_32_bits value ∷ []) numbers in (
        sym (fold_goes_on (varint_at max_varint_len) packed_step varint_shortens byte (bytes ++ back) s t
            (value, rest ++ back) reads refl)
            ∙ (more.0 ∙ ap (fold_at (varint_at max_varint_len) packed_step back) same),
        sym (fault_goes_on (varint_at max_varint_len) (λ _. varint_fault start max_varint_len) packed_step no_step_fault
            0 varint_shortens byte (bytes ++ back) s t (value, rest ++ back) reads refl)
            ∙ (more.1 ∙ ap (packed_fault start back) same),
      )

  packed_at_back : (back s : List ℕ) (fault : WireFault) → 0 < length back
      → NoVarint start max_varint_len back fault
      → (fold_at (varint_at max_varint_len) packed_step back s ≡ None) × (fault ≡ packed_fault start back s)
  unfolding packed_fault
  packed_at_back [] s fault there n = absurd (omega (arith, there))
  packed_at_back (byte ∷ back) s fault there n =
      let v = varint_blamed n in (
        fold_unread (varint_at max_varint_len) packed_step byte back s v.0,
        v.1 ∙ sym (fault_unread (varint_at max_varint_len) (λ _. varint_fault start max_varint_len) packed_step
            no_step_fault 0 byte back s v.0),
      )

  -- ---- the numbers of a payload, which are added to others

  pub numbers_refused : (end : ℕ) (numbers : List ℕ) (payload : Payload) → numbers_in payload ≡ None
      → NoNumbers start payload (inner_fault (λ _ bytes. packed_fault start bytes numbers) end payload)
  numbers_refused end numbers (Delimited bytes) e =
      packed_stops bytes numbers (fold_of_packed bytes numbers ∙ bind_none (packed_at bytes) _ e)
  numbers_refused end numbers (Varint value) e = absurd (cc)
  numbers_refused end numbers (Fixed64 bytes) e = absurd (cc)
  numbers_refused end numbers (Fixed32 bytes) e = absurd (cc)

  pub numbers_blamed : (end : ℕ) {payload : Payload} {fault : WireFault} (numbers : List ℕ)
      → NoNumbers start payload fault
      → (numbers_in payload ≡ None)
      × (fault ≡ inner_fault (λ _ bytes. packed_fault start bytes numbers) end payload)
  unfolding packed_at
  numbers_blamed end numbers (packed {bytes = bytes} {front = front} {back = back} {numbers = first} {fault = fault}
      same are there n) =
      let none = packed_at_back back ([] ++ first) fault there n in
      let due = packed_at_back back (numbers ++ first) fault there n in (
        ap (λ l. fold_at (varint_at max_varint_len) packed_step l []) same
            ∙ ((packed_past [] back are).0 ∙ none.0),
        due.1 ∙ sym (ap (λ l. packed_fault start l numbers) same ∙ (packed_past numbers back are).1),
      )
