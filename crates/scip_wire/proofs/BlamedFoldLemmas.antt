-- Which fault a fold over the items in bytes names, and turns of a loop over them.
use Rattle.std.proofs.Common.{◌≡◌, ◌⊎◌, inl, inr, refl, ap, sym, ◌∙◌, ℕ, zero, suc, ◌-◌, ◌<◌, ◌≤◌, Bool, true, false}
use Rattle.std.proofs.Common.{List, [], ◌∷◌, length, Option, Some, None, arith}
use Rattle.std.specs.Prelude.{◌==◌, is_some}
use Rattle.scip_wire.specs.declared.wire_fault.WireFault.{WireFault}
use Rattle.scip_wire.specs.declared.wire_fault.WireFault.TheVariants.{Memory, Repeated}
use Rattle.scip_wire.specs.Fields.{Delimited}
use Rattle.scip_wire.specs.Gives.{Fails}
use Rattle.scip_wire.specs.Blamed.{blame, fold_fault_in, fold_fault, only_fault}
use Rattle.scip_wire.proofs.ReadingFoldLemmas.{there_are}

blame_same : {A : Type 0} (o : Option A) (fault : WireFault) (f g : A → WireFault)
    → ((x : A) → o ≡ Some x → f x ≡ g x) → blame o fault f ≡ blame o fault g
blame_same None fault f g h = refl
blame_same (Some x) fault f g h = h x refl

-- of a message that comes at most once
pub only_again : {A : Type 0} (faults : (end : ℕ) → List ℕ → WireFault) (start end : ℕ) (earlier : Option A)
    (bytes : List ℕ) → is_some earlier ≡ true
    → only_fault faults start end earlier (Delimited bytes) ≡ Repeated start
only_again faults start end None bytes h = absurd (cc)
only_again faults start end (Some x) bytes h = refl

pub only_inside : {A : Type 0} (faults : (end : ℕ) → List ℕ → WireFault) (start end : ℕ) (earlier : Option A)
    (bytes : List ℕ) → is_some earlier ≡ false
    → only_fault faults start end earlier (Delimited bytes) ≡ faults end bytes
only_inside faults start end None bytes h = refl
only_inside faults start end (Some x) bytes h = absurd (cc)

module _ {S A : Type 0} (read : List ℕ → Option (A × List ℕ)) (read_fault : (start : ℕ) → List ℕ → WireFault)
    (step : S → A → Option S) (step_fault : S → (start end : ℕ) → A → WireFault) (end : ℕ) where
  module _ (falls : (bytes : List ℕ) (x : A × List ℕ) → read bytes ≡ Some x → length x.1 < length bytes) where
    -- a greater bound than the number of bytes changes nothing
    fault_enough : (n m : ℕ) (bytes : List ℕ) (s : S) → length bytes ≤ n → length bytes ≤ m
        → fold_fault_in read read_fault step step_fault end n bytes s
        ≡ fold_fault_in read read_fault step step_fault end m bytes s
    unfolding fold_fault_in
    fault_enough zero zero [] s h k = refl
    fault_enough zero (suc m) [] s h k = refl
    fault_enough (suc n) zero [] s h k = refl
    fault_enough (suc n) (suc m) [] s h k = refl
    fault_enough zero m (byte ∷ bytes) s h k = absurd (omega arith)
    fault_enough (suc n) zero (byte ∷ bytes) s h k = absurd (omega arith)
    fault_enough (suc n) (suc m) (byte ∷ bytes) s h k =
        blame_same (read (byte ∷ bytes)) _ _ _ (λ x e.
        let l : length x.1 < length (byte ∷ bytes) = falls (byte ∷ bytes) x e in
        blame_same (step s x.0) _ _ _ (λ t _. fault_enough n m x.1 t (omega arith) (omega arith)))

    pub fault_goes_on : (byte : ℕ) (bytes : List ℕ) (s t : S) (x : A × List ℕ)
        → read (byte ∷ bytes) ≡ Some x → step s x.0 ≡ Some t
        → fold_fault read read_fault step step_fault end x.1 t
        ≡ fold_fault read read_fault step step_fault end (byte ∷ bytes) s
    unfolding fold_fault_in fold_fault
    fault_goes_on byte bytes s t x e k =
        let l : length x.1 < length (byte ∷ bytes) = falls (byte ∷ bytes) x e in
        rw (e, k) (fault_enough (length x.1) (length bytes) x.1 t (omega arith) (omega arith))

  pub fault_unread : (byte : ℕ) (bytes : List ℕ) (s : S) → read (byte ∷ bytes) ≡ None
      → fold_fault read read_fault step step_fault end (byte ∷ bytes) s
      ≡ read_fault (end - length (byte ∷ bytes)) (byte ∷ bytes)
  unfolding fold_fault_in fold_fault
  fault_unread byte bytes s e = rw e refl

  pub fault_failed : (byte : ℕ) (bytes : List ℕ) (s : S) (x : A × List ℕ)
      → read (byte ∷ bytes) ≡ Some x → step s x.0 ≡ None
      → fold_fault read read_fault step step_fault end (byte ∷ bytes) s
      ≡ step_fault s (end - length (byte ∷ bytes)) (end - length x.1) x.0
  unfolding fold_fault_in fold_fault
  fault_failed byte bytes s x e k = rw (e, k) refl

  -- ---- a turn of a loop, at bytes that aren't empty

  module _ (bytes : List ℕ) (s : S) (empty : Bool) (known : empty ≡ (length bytes == 0)) (there : empty ≡ false) where
    pub blame_goes_on : ((bytes : List ℕ) (x : A × List ℕ) → read bytes ≡ Some x → length x.1 < length bytes)
        → (x : A) (rest : List ℕ) (t : S) → read bytes ≡ Some (x, rest) → step s x ≡ Some t
        → fold_fault read read_fault step step_fault end rest t ≡ fold_fault read read_fault step step_fault end bytes s
    blame_goes_on falls x rest t e k =
        let b = there_are bytes empty known there in
        fault_goes_on falls b.0 b.1 s t (x, rest) (ap read (sym b.2) ∙ e) k
        ∙ ap (λ l. fold_fault read read_fault step step_fault end l s) (sym b.2)

    -- an item isn't read
    pub blame_unread : (e due : WireFault) → fold_fault read read_fault step step_fault end bytes s ≡ due
        → Fails e (read bytes) → e ≡ read_fault (end - length bytes) bytes → (e ≡ Memory) ⊎ (e ≡ due)
    blame_unread e due same (inl memory) is = inl memory
    blame_unread e due same (inr none) is =
        let b = there_are bytes empty known there in
        inr (is ∙ (ap (λ l. read_fault (end - length l) l) b.2
        ∙ (sym (fault_unread b.0 b.1 s (ap read (sym b.2) ∙ none))
        ∙ (ap (λ l. fold_fault read read_fault step step_fault end l s) (sym b.2) ∙ same))))

    -- one can't be added
    pub blame_failed : (e due : WireFault) (x : A) (rest : List ℕ)
        → fold_fault read read_fault step step_fault end bytes s ≡ due → read bytes ≡ Some (x, rest)
        → Fails e (step s x) → (e ≡ Memory) ⊎ (e ≡ step_fault s (end - length bytes) (end - length rest) x)
        → (e ≡ Memory) ⊎ (e ≡ due)
    blame_failed e due x rest same k (inl memory) blamed = inl memory
    blame_failed e due x rest same k (inr none) (inl memory) = inl memory
    blame_failed e due x rest same k (inr none) (inr is) =
        let b = there_are bytes empty known there in
        inr (is ∙ (ap (λ (l : List ℕ). step_fault s (end - length l) (end - length rest) x) b.2
        ∙ (sym (fault_failed b.0 b.1 s (x, rest) (ap read (sym b.2) ∙ k) none)
        ∙ (ap (λ l. fold_fault read read_fault step step_fault end l s) (sym b.2) ∙ same))))
