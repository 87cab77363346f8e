-- The parts of a package by number.
use Rattle.std.proofs.Common.{◌≡◌, ℕ, zero, suc, ◌⊎◌, inl, inr, ◌<◌, ◌+◌, List, [], ◌∷◌, map, length, get_or, refl, sym}
use Rattle.std.proofs.Common.{ap, subst, arith}
use Rattle.scip_symbol.specs.Parts.{IsPart}
use Rattle.scip_symbol.specs.Package.{nth, ArePartsBelow}

compare-suc : (j k : ℕ) → j < k + 1 → (j < k) ⊎ (j ≡ k)
compare-suc zero zero h = inr refl
compare-suc zero (suc k) h = inl (omega arith)
compare-suc (suc j) zero h = absurd (omega arith)
compare-suc (suc j) (suc k) h =
    elim (compare-suc j k (omega arith)) [ inl less ↦ inl (omega arith) | inr same ↦ inr (ap suc same) ]

module _ {X : Type 0} (bytes : X → List ℕ) where
  -- the text of the element with a number
  pub nth-map : (xs : List X) (k : ℕ) (x : X) → k < length xs → x ≡ get_or xs k x → nth (map bytes xs) k ≡ bytes x
  nth-map [] k x below is = absurd (omega arith)
  nth-map (y ∷ xs) zero x below is = ap bytes (sym is)
  nth-map (y ∷ xs) (suc k) x below is = nth-map xs k x (omega arith) is

  pub one-more : (xs : List X) (k : ℕ) (x : X) → k < length xs → x ≡ get_or xs k x → ArePartsBelow (map bytes xs) k
      → IsPart (bytes x) → ArePartsBelow (map bytes xs) (k + 1)
  one-more xs k x below is before here = λ j h.
      elim (compare-suc j k h) [
        | inl less ↦ before j less
        | inr same ↦ subst (λ n. IsPart (nth (map bytes xs) n)) (sym same)
            (subst IsPart (sym (nth-map xs k x below is)) here)
      ]
