-- Where no varint is read, the fault that is named says why there is none; and there is one such fault.
use Rattle.std.proofs.Common.{◌≡◌, refl, sym, ℕ, zero, suc, ◌^◌, List, [], ◌∷◌, Option, Some, None}
use Rattle.std.specs.Prelude.{nat_lt}
use Rattle.std.proofs.lemmas.Bool.{ltb-false, le-ltb}
use Rattle.std.proofs.lemmas.Option.{none-some}
use Rattle.scip_wire.specs.Reading.{varint_at}
use Rattle.scip_wire.specs.Refused.{NoVarint, cut_off, too_long, too_large, behind}
use Rattle.scip_wire.specs.Blamed.{varint_fault}
use Rattle.scip_wire.specs.declared.wire_fault.WireFault.{WireFault}
use Rattle.scip_wire.proofs.ReadingOptionLemmas.{split}
use Rattle.scip_wire.proofs.FieldLemmas.{varint_found, varint_exact}

pub on_option : {A P : Type 0} (o : Option A) → (o ≡ None → P) → ((x : A) → o ≡ Some x → P) → P
on_option None on_none on_some = on_none refl
on_option (Some x) on_none on_some = on_some x refl

pub varint_refused : (start limit : ℕ) (bytes : List ℕ) → varint_at limit bytes ≡ None
    → NoVarint start limit bytes (varint_fault start limit bytes)
unfolding varint_at varint_fault
varint_refused start zero bytes e = too_long
varint_refused start (suc limit) [] e = cut_off
varint_refused start (suc limit) (byte ∷ bytes) e =
    split (nat_lt byte 128)
    (λ small. absurd (none-some _ (sym (rw small at e))))
    (λ large.
    let goes_on = ltb-false byte 128 large in
    on_option (varint_at limit bytes)
    (λ none. rw (large, none) (behind goes_on (varint_refused start limit bytes none)))
    (λ high some.
    split (nat_lt high.0 (2 ^ 57))
    (λ fits. absurd (none-some _ (sym (rw (large, some, fits) at e))))
    (λ over. rw (large, some)
    (too_large goes_on (varint_found limit bytes high some) (ltb-false high.0 (2 ^ 57) over)))))

pub varint_blamed : {start limit : ℕ} {bytes : List ℕ} {fault : WireFault} → NoVarint start limit bytes fault
    → (varint_at limit bytes ≡ None) × (fault ≡ varint_fault start limit bytes)
unfolding varint_at varint_fault
varint_blamed cut_off = (refl, refl)
varint_blamed too_long = (refl, refl)
varint_blamed (too_large {byte = byte} {high = high} large v over) = (
  rw (le-ltb byte 128 large, varint_exact v, le-ltb high (2 ^ 57) over) refl,
  rw (le-ltb byte 128 large, varint_exact v) refl,
)
varint_blamed (behind {byte = byte} large n) =
    let h = varint_blamed n in
    (rw (le-ltb byte 128 large, h.0) refl, rw (le-ltb byte 128 large, h.0) h.1)
