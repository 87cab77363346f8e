-- What becomes of a document by the bytes of its source.
use Rattle.std.proofs.Common.{◌≡◌, ◌∙◌, sym, refl, ap, ℕ, List, Bool, true, false, cond, Some, Err}
use Rattle.std.specs.Prelude.{Result}
use Rattle.std.specs.Str.{IsUtf8, is_utf8}
use Rattle.std.proofs.lemmas.Str.{IsUtf8-from_is_utf8, is_utf8-from_IsUtf8}
use Rattle.scip_records.specs.declared.records.Index.{Index}
use Rattle.scip_pages.specs.Snapshot.{snapshot_of}
use Rattle.scip_pages.specs.SnapshotOutcomes.{Gives}
use Rattle.scip_pages.specs.declared.snapshot_fault.SnapshotFault.{SnapshotFault}
use Rattle.scip_pages.specs.declared.snapshot_fault.SnapshotFault.TheVariants.{NoDocument, NoUnit, Misfit, Memory}
use Rattle.scip_site.specs.declared.left_out.LeftOut.TheVariants.{NotText, NoSnapshot}
use Rattle.scip_site.specs.Snapshots.{of_snapshot, of_source}

-- they are a text
pub in_text : (index : Index) (number : ℕ) (bytes source : List ℕ) → source ≡ bytes → IsUtf8 bytes
    → of_snapshot (snapshot_of index number source) ≡ of_source index number (Some bytes)
in_text index number bytes source same utf8 =
    ap (λ (b : List ℕ). of_snapshot (snapshot_of index number b)) same
    ∙ sym (ap (λ (b : Bool). cond b (of_snapshot (snapshot_of index number bytes)) (Err NotText))
    (is_utf8-from_IsUtf8 bytes utf8))

-- or none
pub no_text : (index : Index) (number : ℕ) (bytes : List ℕ) → (IsUtf8 bytes → ⊥)
    → Err NotText ≡ of_source index number (Some bytes)
no_text index number bytes refused = by (is_utf8 bytes) refl
  where
    by : (b : Bool) → is_utf8 bytes ≡ b
        → Err NotText ≡ cond b (of_snapshot (snapshot_of index number bytes)) (Err NotText)
    by true e = absurd (refused (IsUtf8-from_is_utf8 bytes e))
    by false e = refl

-- why there is no snapshot, but for want of memory
pub none_so : {X : Type 0} (view : X → List ℕ) (fault : SnapshotFault) (due : Result (List ℕ) SnapshotFault)
    → (fault ≡ Memory → ⊥) → Gives view (Err fault) due → Err (NoSnapshot fault) ≡ of_snapshot due
none_so view NoDocument due other gives = sym (ap of_snapshot gives)
none_so view NoUnit due other gives = sym (ap of_snapshot gives)
none_so view (Misfit number) due other gives = sym (ap of_snapshot gives)
none_so view Memory due other gives = absurd (other refl)
