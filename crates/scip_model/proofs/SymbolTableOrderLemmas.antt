-- The order of texts in two parts.
use Rattle.std.proofs.Common.{◌≡◌, ◌≢◌, ◌∙◌, ap, sym, refl, ℕ, List, [], ◌∷◌, ◌++◌, nat_cmp, Ordering, Less, Equal}
use Rattle.std.proofs.Common.{Greater}
use Rattle.std.specs.Cmp.Lexicographic.{slice_cmp}
use Rattle.std.specs.Ordering.{ordering_then}
use Rattle.std.specs.Str.Pattern.{StripsPrefix, FindsTextPrefix}
use Rattle.std.proofs.lemmas.Cmp.{ranked, tied_itself, nat_cmp_total}

-- what a front is taken off
pub stripped : (front whole rest : List ℕ) → StripsPrefix (FindsTextPrefix front) whole rest → whole ≡ front ++ rest
stripped front whole rest strips = strips.1.1 ∙ ap (λ (its : List ℕ). front ++ its) (sym strips.2)

-- of two that begin alike
pub same_front : (front a b : List ℕ) → slice_cmp nat_cmp (front ++ a) (front ++ b) ≡ slice_cmp nat_cmp a b
same_front [] a b = refl
same_front (x ∷ front) a b =
    ap (λ (o : Ordering). ordering_then o (slice_cmp nat_cmp (front ++ a) (front ++ b))) (tied_itself nat_cmp_total x)
    ∙ same_front front a b

-- the same behind two items, if it is behind equal ones
then_same : (x y : ℕ) (first second : Ordering) → (x ≡ y → first ≡ second)
    → ordering_then (nat_cmp x y) first ≡ ordering_then (nat_cmp x y) second
then_same x y first second same = by (nat_cmp x y) refl
  where
    by : (o : Ordering) → nat_cmp x y ≡ o → ordering_then o first ≡ ordering_then o second
    by Less e = refl
    by Equal e = same (ranked x y Equal (sym e))
    by Greater e = refl

-- of one that doesn't begin with the front, and one that does
pub apart_whole : (front rest whole : List ℕ) → ((after : List ℕ) → whole ≢ front ++ after)
    → slice_cmp nat_cmp (front ++ rest) whole ≡ slice_cmp nat_cmp front whole
apart_whole [] rest whole not = absurd (not whole refl)
apart_whole (x ∷ front) rest [] not = refl
apart_whole (x ∷ front) rest (y ∷ whole) not =
    then_same x y (slice_cmp nat_cmp (front ++ rest) whole) (slice_cmp nat_cmp front whole)
    (λ same. apart_whole front rest whole (λ after e. not after (ap (λ (n : ℕ). n ∷ whole) (sym same)
    ∙ ap (λ (xs : List ℕ). x ∷ xs) e)))

-- of two with fronts of which none begins with the other
pub apart_fronts : (front rest other other_rest : List ℕ) → ((after : List ℕ) → other ≢ front ++ after)
    → ((after : List ℕ) → front ≢ other ++ after)
    → slice_cmp nat_cmp (front ++ rest) (other ++ other_rest) ≡ slice_cmp nat_cmp front other
apart_fronts [] rest other other_rest not nor = absurd (not other refl)
apart_fronts (x ∷ front) rest [] other_rest not nor = absurd (nor (x ∷ front) refl)
apart_fronts (x ∷ front) rest (y ∷ other) other_rest not nor =
    then_same x y (slice_cmp nat_cmp (front ++ rest) (other ++ other_rest)) (slice_cmp nat_cmp front other)
    (λ same. apart_fronts front rest other other_rest
    (λ after e. not after (ap (λ (n : ℕ). n ∷ other) (sym same) ∙ ap (λ (xs : List ℕ). x ∷ xs) e))
    (λ after e. nor after (ap (λ (n : ℕ). n ∷ front) same ∙ ap (λ (xs : List ℕ). y ∷ xs) e)))
