-- Texts with their marks doubled.
use Rattle.std.proofs.Common.{◌≡◌, ℕ, suc, ◌<◌, true, false, cond, List, [], ◌∷◌, ◌++◌, length, get_or, take, ◌≤◌, eqb}
use Rattle.std.proofs.Common.{refl, ap, sym, ◌∙◌, arith, append_assoc}
use Rattle.std.specs.List.{position_or_len, before_first, after_first}
use Rattle.std.proofs.lemmas.List.Sums.{split_at_first, fails_before_first, passes_at_first}
use Rattle.std.proofs.lemmas.List.{length-take-le, get_or-take}
use Rattle.scip_symbol.specs.Names.{doubled}

module _ (m : ℕ) where
  pub other : (b : ℕ) (bs : List ℕ) → eqb b m ≡ false → doubled m (b ∷ bs) ≡ b ∷ doubled m bs
  other b bs e = rw e refl

  pub mark : (b : ℕ) (bs : List ℕ) → eqb b m ≡ true → doubled m (b ∷ bs) ≡ m ∷ m ∷ doubled m bs
  mark b bs e = rw e refl

  clean : (xs : List ℕ) → ((k : ℕ) → k < length xs → eqb (get_or xs k 0) m ≡ false) → doubled m xs ≡ xs
  clean [] h = refl
  clean (x ∷ xs) h = other x xs (h 0 (omega arith)) ∙ ap (λ l. x ∷ l) (clean xs (λ k below. h (suc k) (omega arith)))

  pub doubled-append : (xs ys : List ℕ) → doubled m (xs ++ ys) ≡ doubled m xs ++ doubled m ys
  doubled-append [] ys = refl
  doubled-append (x ∷ xs) ys =
      ap (λ l. cond (eqb x m) (m ∷ m ∷ []) (x ∷ []) ++ l) (doubled-append xs ys)
      ∙ sym (append_assoc (cond (eqb x m) (m ∷ m ∷ []) (x ∷ [])) (doubled m xs) (doubled m ys))

  -- a text without a mark
  pub doubled-clean : (bs : List ℕ) → position_or_len (λ b. eqb b m) bs ≡ length bs → doubled m bs ≡ bs
  doubled-clean bs e = clean bs (λ k below. fails_before_first (λ b. eqb b m) bs k 0 (omega (arith, e)))

  -- a text cut at its first mark
  pub doubled-cut : (bs front rest : List ℕ) → position_or_len (λ b. eqb b m) bs < length bs
      → front ≡ before_first (λ b. eqb b m) bs → rest ≡ after_first (λ b. eqb b m) bs
      → doubled m bs ≡ front ++ (m ∷ m ∷ doubled m rest)
  doubled-cut bs front rest within f r =
      let at = position_or_len (λ b. eqb b m) bs in
      let here = get_or bs at 0 in
      let back = after_first (λ b. eqb b m) bs in
      let shorter : at ≤ length bs = omega arith in
      let front_clean : doubled m (take at bs) ≡ take at bs =
      clean (take at bs) (λ k below. let near : k < at = omega (arith, length-take-le at bs shorter) in
      rw (get_or-take at bs k 0 near) (fails_before_first (λ b. eqb b m) bs k 0 near)) in
      ap (doubled m) (split_at_first (λ b. eqb b m) bs 0 within)
      ∙ (doubled-append (take at bs) (here ∷ back)
      ∙ (ap (λ l. l ++ doubled m (here ∷ back)) front_clean
      ∙ (ap (λ l. take at bs ++ l) (mark here back (passes_at_first (λ b. eqb b m) bs 0 within))
      ∙ (rw (f, r) refl))))
