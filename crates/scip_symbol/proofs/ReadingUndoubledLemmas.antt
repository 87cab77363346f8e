-- Texts up to a mark that isn't doubled.
use Rattle.std.proofs.Common.{◌≡◌, ◌≢◌, ℕ, suc, ◌<◌, Bool, true, false, eqb, Ok, Err, List, [], ◌∷◌, ◌++◌, length}
use Rattle.std.proofs.Common.{get_or, refl, ap, sym, ◌∙◌, subst, arith, append_assoc, append-nil}
use Rattle.std.proofs.lemmas.Bool.{eqb-true}
use Rattle.scip_symbol.specs.Names.{doubled}
use Rattle.scip_symbol.specs.Reading.{Front, onto, undoubled_at}
use Rattle.scip_symbol.proofs.ReadingTestLemmas.{same_ok, ne-test}
use Rattle.scip_symbol.proofs.ReadingAfterLemmas.{eqb-same}
use Rattle.scip_symbol.proofs.NameDoubledLemmas.{other, mark}
use Rattle.proto_lex.specs.Bytes.{starts}
use Rattle.proto_lex.proofs.ReadingTestLemmas.{chosen as tested}

-- so many bytes read already
abbrev pub ontos : List ℕ → Front (List ℕ) → Front (List ℕ)
ontos word (Ok (more, rest)) = Ok (word ++ more, rest)
ontos word (Err left) = Err left

pub ontos-append : (xs ys : List ℕ) (r : Front (List ℕ)) → ontos xs (ontos ys r) ≡ ontos (xs ++ ys) r
ontos-append xs ys (Ok x) = simp append_assoc
ontos-append xs ys (Err left) = refl

ontos-nil : (r : Front (List ℕ)) → r ≡ ontos [] r
ontos-nil (Ok x) = refl
ontos-nil (Err left) = refl

onto-ontos : (b : ℕ) (word : List ℕ) (r : Front (List ℕ)) → onto b (ontos word r) ≡ ontos (b ∷ word) r
onto-ontos b word (Ok x) = refl
onto-ontos b word (Err left) = refl

onto-ok : {P : Type 0} (b : ℕ) (r : Front (List ℕ)) (y : List ℕ × List ℕ) → onto b r ≡ Ok y
    → ((x : List ℕ × List ℕ) → r ≡ Ok x → (b ∷ x.0, x.1) ≡ y → P) → P
onto-ok b (Ok x) y e p = p x refl (same_ok _ refl e)
onto-ok b (Err left) y e p = absurd cc

pub onto-err : {P : Type 0} (b : ℕ) (r : Front (List ℕ)) (left : ℕ) → onto b r ≡ Err left → (r ≡ Err left → P) → P
onto-err b (Ok x) left e p = absurd cc
onto-err b (Err l) left e p = p (cc)

onto-last : (word : List ℕ) (b : ℕ) (r : Front (List ℕ)) → ontos (word ++ b ∷ []) r ≡ ontos word (onto b r)
onto-last word b (Ok x) = ap (λ w. Ok (w, x.1)) (append_assoc word (b ∷ []) x.0)
onto-last word b (Err left) = refl

module _ (m : ℕ) where
  -- ---- the loop
  pub over-front : (front rest : List ℕ) → ((i : ℕ) → i < length front → get_or front i 0 ≢ m)
      → undoubled_at m false (front ++ rest) ≡ ontos front (undoubled_at m false rest)
  unfolding undoubled_at
  over-front [] rest h = ontos-nil (undoubled_at m false rest)
  over-front (b ∷ front) rest h =
      rw (ne-test b m (h 0 (omega arith)), over-front front rest (λ i below. h (suc i) (omega arith)))
      (onto-ontos b front (undoubled_at m false rest))

  pub no-mark : (text : List ℕ) → ((i : ℕ) → i < length text → get_or text i 0 ≢ m) → undoubled_at m false text ≡ Err 0
  unfolding undoubled_at
  no-mark [] h = refl
  no-mark (b ∷ text) h = rw (ne-test b m (h 0 (omega arith)), no-mark text (λ i below. h (suc i) (omega arith))) refl

  pub doubled-mark : (rest : List ℕ) → undoubled_at m false (m ∷ m ∷ rest) ≡ onto m (undoubled_at m false rest)
  unfolding undoubled_at
  doubled-mark rest = rw (eqb-same m) refl

  pub single-mark : (behind : List ℕ) → ((rest : List ℕ) → behind ≢ m ∷ rest)
      → undoubled_at m false (m ∷ behind) ≡ Ok ([], behind)
  unfolding undoubled_at
  single-mark [] h = rw (eqb-same m) refl
  single-mark (b ∷ behind) h = rw (eqb-same m, ne-test b m (λ e. h behind (ap (λ x. x ∷ behind) e))) refl

  module _ (word rest : List ℕ) (whole : Front (List ℕ)) (kept : ontos word (undoubled_at m false rest) ≡ whole) where
    -- at a mark behind a front without one
    at-mark : (front behind : List ℕ) → rest ≡ front ++ (m ∷ behind)
        → ((i : ℕ) → i < length front → get_or front i 0 ≢ m)
        → ontos (word ++ front) (undoubled_at m false (m ∷ behind)) ≡ whole
    at-mark front behind split none =
        sym (ontos-append word front (undoubled_at m false (m ∷ behind)))
        ∙ ap (ontos word) (sym (ap (undoubled_at m false) split ∙ over-front front (m ∷ behind) none))
        ∙ kept

    pub loop-next : (front behind more before after mark : List ℕ) → rest ≡ front ++ (m ∷ behind)
        → ((i : ℕ) → i < length front → get_or front i 0 ≢ m)
        → behind ≡ m ∷ more → before ≡ word ++ front → after ≡ before ++ mark → mark ≡ m ∷ []
        → ontos after (undoubled_at m false more) ≡ whole
    loop-next front behind more before after mark split none goes p q r =
        ap (λ w. ontos w (undoubled_at m false more)) (q ∙ ap (λ w. w ++ mark) p ∙ ap (λ l. (word ++ front) ++ l) r)
        ∙ onto-last (word ++ front) m (undoubled_at m false more)
        ∙ ap (ontos (word ++ front)) (sym (ap (λ l. undoubled_at m false (m ∷ l)) goes ∙ doubled-mark more))
        ∙ at-mark front behind split none

    pub loop-end : (front behind before : List ℕ) → rest ≡ front ++ (m ∷ behind)
        → ((i : ℕ) → i < length front → get_or front i 0 ≢ m)
        → ((more : List ℕ) → behind ≢ m ∷ more) → before ≡ word ++ front → whole ≡ Ok (before, behind)
    loop-end front behind before split none ends p =
        sym (at-mark front behind split none) ∙ ap (ontos (word ++ front)) (single-mark behind ends)
        ∙ ap (λ w. Ok (w, behind)) (append-nil (word ++ front) ∙ sym p)

    pub loop-none : ((i : ℕ) → i < length rest → get_or rest i 0 ≢ m) → whole ≡ Err 0
    loop-none none = sym kept ∙ ap (ontos word) (no-mark rest none)

  -- ---- what is read is doubled
  abbrev pending : Bool → List ℕ → List ℕ
  pending true text = m ∷ text
  pending false text = text

  found : (flag : Bool) (text : List ℕ) (y : List ℕ × List ℕ) → undoubled_at m flag text ≡ Ok y
      → (pending flag text ≡ doubled m y.0 ++ (m ∷ y.1)) × (starts (λ b. eqb b m) y.1 ≡ false)
  unfolding undoubled_at
  found false [] y e = absurd cc
  found true [] y e = subst
      (λ (z : List ℕ × List ℕ). (m ∷ [] ≡ doubled m z.0 ++ (m ∷ z.1)) × (starts (λ b. eqb b m) z.1 ≡ false))
      (same_ok _ refl e) (refl, refl)
  found false (b ∷ text) y e =
      tested (eqb b m) e
      (λ t q. let more = found true text y q in (ap (λ c. c ∷ text) (eqb-true b m t) ∙ more.0, more.1))
      (λ f q. onto-ok b (undoubled_at m false text) y q (λ x r s.
      let more = found false text x r in
      subst (λ (z : List ℕ × List ℕ). (b ∷ text ≡ doubled m z.0 ++ (m ∷ z.1)) × (starts (λ b. eqb b m) z.1 ≡ false)) s
      (ap (λ l. b ∷ l) more.0 ∙ ap (λ l. l ++ (m ∷ x.1)) (sym (other m b x.0 f)), more.1)))
  found true (b ∷ text) y e =
      tested (eqb b m) e
      (λ t q. onto-ok m (undoubled_at m false text) y q (λ x r s.
      let more = found false text x r in
      subst (λ (z : List ℕ × List ℕ). (m ∷ b ∷ text ≡ doubled m z.0 ++ (m ∷ z.1)) × (starts (λ b. eqb b m) z.1 ≡ false))
      s (
        ap (λ c. m ∷ c ∷ text) (eqb-true b m t) ∙ ap (λ l. m ∷ m ∷ l) more.0
            ∙ ap (λ l. l ++ (m ∷ x.1)) (sym (mark m m x.0 (eqb-same m))),
        more.1,
      )))
      (λ f q. subst (λ (z : List ℕ × List ℕ). (m ∷ b ∷ text ≡ doubled m z.0 ++ (m ∷ z.1))
      × (starts (λ b. eqb b m) z.1 ≡ false)) (same_ok _ refl q) (refl, f))

  pub undoubled-found : (text : List ℕ) (y : List ℕ × List ℕ) → undoubled_at m false text ≡ Ok y
      → (text ≡ doubled m y.0 ++ (m ∷ y.1)) × (starts (λ b. eqb b m) y.1 ≡ false)
  undoubled-found = found false

  -- ---- and what is doubled is read
  pub undoubled-exact : (word rest : List ℕ) → starts (λ b. eqb b m) rest ≡ false
      → undoubled_at m false (doubled m word ++ (m ∷ rest)) ≡ Ok (word, rest)
  unfolding undoubled_at
  undoubled-exact [] [] s = rw (eqb-same m) refl
  undoubled-exact [] (b ∷ rest) s = rw (eqb-same m, s) refl
  undoubled-exact (x ∷ word) rest s =
      elim (eqb x m) as (λ t. eqb x m ≡ t
      → undoubled_at m false (doubled m (x ∷ word) ++ (m ∷ rest)) ≡ Ok (x ∷ word, rest)) [
        | true ↦ λ t.
            ap (λ l. undoubled_at m false (l ++ (m ∷ rest))) (mark m x word t)
            ∙ doubled-mark (doubled m word ++ (m ∷ rest))
            ∙ ap (onto m) (undoubled-exact word rest s)
            ∙ ap (λ c. Ok (c ∷ word, rest)) (sym (eqb-true x m t))
        | false ↦ λ f.
            ap (λ l. undoubled_at m false (l ++ (m ∷ rest))) (other m x word f)
            ∙ rw (f, undoubled-exact word rest s) refl
      ] refl

  -- ---- where no mark ends it, nothing is left, and all of it is doubled
  unended : (flag : Bool) (text : List ℕ) (left : ℕ) → undoubled_at m flag text ≡ Err left
      → (left ≡ 0) × ((word : List ℕ) × (pending flag text ≡ doubled m word))
  unfolding undoubled_at
  unended false [] left e = (cc, ([], refl))
  unended true [] left e = absurd cc
  unended false (b ∷ text) left e =
      tested (eqb b m) e
      (λ t q. let more = unended true text left q in
      (more.0, (more.1.0, ap (λ c. c ∷ text) (eqb-true b m t) ∙ more.1.1)))
      (λ f q. onto-err b (undoubled_at m false text) left q (λ r.
      let more = unended false text left r in
      (more.0, (b ∷ more.1.0, ap (λ l. b ∷ l) more.1.1 ∙ sym (other m b more.1.0 f)))))
  unended true (b ∷ text) left e =
      tested (eqb b m) e
      (λ t q. onto-err m (undoubled_at m false text) left q (λ r.
      let more = unended false text left r in (
        more.0,
        (
          m ∷ more.1.0,
          ap (λ c. m ∷ c ∷ text) (eqb-true b m t) ∙ ap (λ l. m ∷ m ∷ l) more.1.1
              ∙ sym (mark m m more.1.0 (eqb-same m)),
        ),
      )))
      (λ f q. absurd cc)

  pub undoubled-open : (text : List ℕ) (left : ℕ) → undoubled_at m false text ≡ Err left
      → (left ≡ 0) × ((word : List ℕ) × (text ≡ doubled m word))
  undoubled-open = unended false
