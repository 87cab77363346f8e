-- Pairs of numbers in order, each once.
use Rattle.std.proofs.Common.{◌≡◌, ◌∙◌, ℕ, Bool, true, ◌&&◌, ◌==◌, refl, sym, ap}
use Rattle.std.specs.declared.cmp.Ordering.{Ordering}
use Rattle.std.specs.declared.cmp.Ordering.TheVariants.{Less, Equal, Greater}
use Rattle.std.specs.Ordering.{nat_cmp, is_eq, eq_by_cmp, ordering_then}
use Rattle.std.specs.Cmp.{IsTotalOrder, IsEquivalence, unsigned_ties, Equal-is}
use Rattle.std.proofs.lemmas.Cmp.{on_total, then_total, nat_cmp_total, eq_by_cmp_equiv}
use Rattle.std.proofs.lemmas.Map.Lookups.{exact_unsigned}
use Rattle.scip_model.specs.Tables.ExternalLists.{Pair, pair_cmp}
use Rattle.scip_model.proofs.OccurrenceOrderLemmas.{both_equal}

pub pairs_total : IsTotalOrder pair_cmp
pairs_total = then_total (on_total (λ (x : Pair). x.0) nat_cmp_total) (on_total (λ (x : Pair). x.1) nat_cmp_total)

abbrev pub same : Pair → Pair → Bool
same x y = (x.0 == y.0) && (x.1 == y.1)

is_eq-then : (r s : Ordering) → is_eq (ordering_then r s) ≡ (is_eq r && is_eq s)
is_eq-then Less s = refl
is_eq-then Equal s = refl
is_eq-then Greater s = refl

pub ties : (x y : Pair) → same x y ≡ eq_by_cmp pair_cmp x y
ties x y =
    ap (λ (t : Bool). t && (x.1 == y.1)) (unsigned_ties x.0 y.0)
    ∙ (ap (λ (t : Bool). is_eq (nat_cmp x.0 y.0) && t) (unsigned_ties x.1 y.1)
    ∙ sym (is_eq-then (nat_cmp x.0 y.0) (nat_cmp x.1 y.1)))

pub equivalence : IsEquivalence same
equivalence =
    let e = eq_by_cmp_equiv pairs_total in
    record {
      refl = λ x. ties x x ∙ e.refl x;
      symm = λ x y. ties x y ∙ (e.symm x y ∙ sym (ties y x));
      congr = λ x y z h. ties x z ∙ (e.congr x y z (sym (ties x y) ∙ h) ∙ sym (ties y z));
    }

pub exact : (x y : Pair) → same x y ≡ true → x ≡ y
exact x y h =
    let both = both_equal (nat_cmp x.0 y.0) (nat_cmp x.1 y.1) ((Equal-is (pair_cmp x y)).0 (sym (ties x y) ∙ h)) in
    let first = exact_unsigned x.0 y.0 both.0 in
    let second = exact_unsigned x.1 y.1 both.1 in
    one x.0 y.0 x.1 y.1 first second
  where
    one : (a c b d : ℕ) → a ≡ c → b ≡ d → ◌≡◌ {A = Pair} (a, b) (c, d)
    one a c b d e f = ap (λ n. pair n b) e ∙ ap (λ n. pair c n) f
      where
        pair : ℕ → ℕ → Pair
        pair m n = (m, n)
