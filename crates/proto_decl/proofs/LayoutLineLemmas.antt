-- Lines of offsets, and what stands in order.
use Rattle.std.proofs.Common.{◌≡◌, ◌∙◌, sym, subst, ℕ, zero, suc, ◌<◌, ◌≤◌, List, [], ◌∷◌, length, get_or, map}
use Rattle.std.proofs.Common.{true, false, leb, ltb, arith}
use Rattle.std.specs.Prelude.{◌↔◌, IsTrue}
use Rattle.std.specs.List.Sorted.{IsPartitionPoint}
use Rattle.std.proofs.lemmas.Bool.Decides.{nat_tests}
use Rattle.std.proofs.lemmas.List.{get_or_default}
use Rattle.std.proofs.lemmas.Bool.{ltb-true, ltb-false, leb-true, leb-false}
use Rattle.proto_lex.specs.declared.span.Span.{Span}
use Rattle.proto_lex.specs.Lexed.{AreInOrder}

-- what tests on numbers say
pub less-test : (a b : ℕ) → IsTrue (ltb a b) ↔ (a < b)
less-test a b = ((λ e. ltb-true a b e), λ h. grind (arith, nat_tests))

pub no_more-test : (a b : ℕ) → IsTrue (leb a b) ↔ (a ≤ b)
no_more-test a b = ((λ e. leb-true a b e), λ h. grind (arith, nat_tests))

-- the element at an index
pub record IsAt {X : Type 0} (xs : List X) (i : ℕ) (x : X) : Type 0 where
  pub within : i < length xs
  pub is : x ≡ get_or xs i x

pub held : {X : Type 0} (P : X → Type 0) (xs : List X) (i : ℕ) (x : X) → IsAt xs i x → P (get_or xs i x) → P x
held P xs i x at h = subst P (sym at.is) h

pub at_any : {X : Type 0} (xs : List X) (i : ℕ) (x d : X) → IsAt xs i x → get_or xs i d ≡ x
at_any xs i x d at = get_or_default xs i d x at.within ∙ sym at.is

pub at_index : {X : Type 0} (xs : List X) (i : ℕ) (d : X) → i < length xs → IsAt xs i (get_or xs i d)
at_index xs i d h = record { within = h; is = get_or_default xs i d (get_or xs i d) h }

module _ {X : Type 0} (span : X → Span) where
  -- each begins at the place or behind it, and isn't empty
  pub behind_place : (place k : ℕ) (d : X) (xs : List X) → AreInOrder place (map span xs) → k < length xs
      → (place ≤ (span (get_or xs k d)).start) × ((span (get_or xs k d)).start < (span (get_or xs k d)).end)
  behind_place place k d [] o h = absurd (omega arith)
  behind_place place zero d (x ∷ xs) o h = (o.0, o.1)
  behind_place place (suc k) d (x ∷ xs) o h = let later = behind_place (span x).end k d xs o.2 (omega arith) in
      (omega arith, later.1)

  -- each ends before a later one begins, or where it does
  pub ends_before : (place i j : ℕ) (d : X) (xs : List X) → AreInOrder place (map span xs) → i < j → j < length xs
      → (span (get_or xs i d)).end ≤ (span (get_or xs j d)).start
  ends_before place i j d [] o l h = absurd (omega arith)
  ends_before place zero zero d (x ∷ xs) o l h = absurd (omega arith)
  ends_before place zero (suc j) d (x ∷ xs) o l h = (behind_place (span x).end j d xs o.2 (omega arith)).0
  ends_before place (suc i) zero d (x ∷ xs) o l h = absurd (omega arith)
  ends_before place (suc i) (suc j) d (x ∷ xs) o l h = ends_before (span x).end i j d xs o.2 (omega arith) (omega arith)

  pub starts_rise : (place i j : ℕ) (d : X) (xs : List X) → AreInOrder place (map span xs) → i ≤ j → j < length xs
      → (span (get_or xs i d)).start ≤ (span (get_or xs j d)).start
  starts_rise place i j d [] o l h = absurd (omega arith)
  starts_rise place zero zero d (x ∷ xs) o l h = omega arith
  starts_rise place zero (suc j) d (x ∷ xs) o l h = let later = behind_place (span x).end j d xs o.2 (omega arith) in
      omega (arith, later.0, o.1)
  starts_rise place (suc i) zero d (x ∷ xs) o l h = absurd (omega arith)
  starts_rise place (suc i) (suc j) d (x ∷ xs) o l h = starts_rise (span x).end i j d xs o.2 (omega arith) (omega arith)

  pub ends_rise : (place i j : ℕ) (d : X) (xs : List X) → AreInOrder place (map span xs) → i ≤ j → j < length xs
      → (span (get_or xs i d)).end ≤ (span (get_or xs j d)).end
  ends_rise place i j d [] o l h = absurd (omega arith)
  ends_rise place zero zero d (x ∷ xs) o l h = omega arith
  ends_rise place zero (suc j) d (x ∷ xs) o l h = let later = behind_place (span x).end j d xs o.2 (omega arith) in
      omega (arith, later.0, later.1)
  ends_rise place (suc i) zero d (x ∷ xs) o l h = absurd (omega arith)
  ends_rise place (suc i) (suc j) d (x ∷ xs) o l h = ends_rise (span x).end i j d xs o.2 (omega arith) (omega arith)

-- a point that parts a list by a test parts it by what the test says
pub parted_less : {X : Type 0} (n : X → ℕ) (bound i : ℕ) (xs : List X) → i ≤ length xs
    → IsPartitionPoint (λ x. ltb (n x) bound ≡ true) (λ x. ltb (n x) bound ≡ false) xs i
    → IsPartitionPoint (λ x. n x < bound) (λ x. bound ≤ n x) xs i
parted_less n bound i xs h p =
    (λ k d low high. ltb-true _ _ (p.0 k d low high), λ k d low high. ltb-false _ _ (p.1 k d low high))

pub parted_no_more : {X : Type 0} (n : X → ℕ) (bound i : ℕ) (xs : List X) → i ≤ length xs
    → IsPartitionPoint (λ x. leb (n x) bound ≡ true) (λ x. leb (n x) bound ≡ false) xs i
    → IsPartitionPoint (λ x. n x ≤ bound) (λ x. bound < n x) xs i
parted_no_more n bound i xs h p =
    (λ k d low high. leb-true _ _ (p.0 k d low high), λ k d low high. leb-false _ _ (p.1 k d low high))
