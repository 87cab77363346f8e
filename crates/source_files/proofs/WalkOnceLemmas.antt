-- Items by a view of them, each once.
use Rattle.std.proofs.Common.{◌≡◌, ◌∙◌, ◌↔◌, Bool, true, List, [], ◌∷◌, map, inl, inr, sym, subst, string_bytes}
use Rattle.std.specs.Cmp.{IsEquivalence, IsTotalOrder}
use Rattle.std.specs.Cmp.Lexicographic.{slice_cmp, texts_ties}
use Rattle.std.specs.List.{AllByRecursion, Contains, dedup}
use Rattle.std.specs.List.Sorted.{IsPermutation, IsSorted, IsStrictlySortedBy}
use Rattle.std.specs.Ordering.{eq_by_cmp, nat_cmp}
use Rattle.std.specs.declared.cmp.Ordering.{Ordering}
use Rattle.std.specs.declared.cmp.Ordering.TheVariants.{Less}
use Rattle.std.specs.String.{string_eq}
use Rattle.std.specs.declared.string.String.{String}
use Rattle.std.proofs.lemmas.Cmp.{eq_by_cmp_equiv, nat_list_cmp_total, on_equiv, on_total}
use Rattle.std.proofs.lemmas.List.Elements.{Contains-append_cases, Contains-append_left, Contains-append_right}
use Rattle.std.proofs.lemmas.List.Elements.{Contains-push}
use Rattle.std.proofs.lemmas.List.Kept.{Any-dedup, Contains-from_dedup, IsStrictlySortedBy-dedup}
use Rattle.std.proofs.lemmas.List.Sorted.{Contains-permutation, IsPermutation-sym}
use Rattle.basics.proofs.ListLemmas.{in_nothing as none_among, only as the_one}
use Rattle.source_files.specs.Walks.{AreOnce}
use Rattle.source_files.proofs.UnreadEntryLemmas.{equal_texts}

-- a view among views is that of an element, and each element's is there
from_views : {S V : Type 0} (view : S → V) (xs : List S) (v : V) → Contains (map view xs) v
    → (x : S) × Contains xs x × (view x ≡ v)
from_views view [] v there = absurd (none_among v there)
from_views view (x ∷ xs) v there = elim (Contains-append_cases (view x ∷ []) (map view xs) v there) [
  | inl here ↦ (x, Contains-append_left (x ∷ []) xs x (Contains-push [] x), the_one (view x) v here)
  | inr behind ↦ let (y, within, same) = from_views view xs v behind in
      (y, Contains-append_right (x ∷ []) xs y within, same)
]

into_views : {S V : Type 0} (view : S → V) (xs : List S) (x : S) → Contains xs x → Contains (map view xs) (view x)
into_views view [] x there = absurd (none_among x there)
into_views {S = S} view (y ∷ xs) x there = elim (Contains-append_cases (y ∷ []) xs x there) [
  | inl here ↦ subst (λ (z : S). Contains (view y ∷ map view xs) (view z)) (the_one y x here)
      (Contains-append_left (view y ∷ []) (map view xs) (view y) (Contains-push [] (view y)))
  | inr behind ↦ Contains-append_right (view y ∷ []) (map view xs) (view x) (into_views view xs x behind)
]

-- views that rise strictly
all_views : {S V : Type 0} (view : S → V) (P : V → Type 0) (xs : List S) → AllByRecursion (λ x. P (view x)) xs
    → AllByRecursion P (map view xs)
all_views view P [] all = tt
all_views view P (x ∷ xs) all = (all.0, all_views view P xs all.1)

rising_views : {S V : Type 0} (view : S → V) (cmp : V → V → Ordering) (xs : List S)
    → IsStrictlySortedBy (λ (a b : S). cmp (view a) (view b)) xs → IsStrictlySortedBy cmp (map view xs)
unfolding IsStrictlySortedBy
rising_views view cmp [] up = tt
rising_views view cmp (x ∷ xs) up =
    (all_views view (λ v. cmp (view x) v ≡ Less) xs up.0, rising_views view cmp xs up.1)

-- sorted items without those whose view is that of the one before
module _ {S V : Type 0} (view : S → V) (cmp : V → V → Ordering) (total : IsTotalOrder cmp)
    (exact : (v w : V) → eq_by_cmp cmp v w ≡ true → v ≡ w)
    (E : S → S → Bool)
    (ties : (x y : S) → E x y ≡ eq_by_cmp cmp (view x) (view y)) where
  same_view : (x y : S) → E x y ≡ true → view x ≡ view y
  same_view x y same = exact (view x) (view y) (sym (ties x y) ∙ same)

  pub each_once : (all sorted once : List S) → IsPermutation all sorted
      → IsSorted (λ (a b : S). cmp (view a) (view b)) sorted → once ≡ dedup E sorted
      → ((v : V) → Contains (map view once) v ↔ Contains (map view all) v)
      × IsStrictlySortedBy cmp (map view once)
  each_once all sorted once whole up is = subst (λ (l : List S). ((v : V) → Contains (map view l) v
      ↔ Contains (map view all) v) × IsStrictlySortedBy cmp (map view l)) (sym is) (
        λ v. (
          λ there.
              let (x, within, same) = from_views view (dedup E sorted) v there in
              subst (Contains (map view all)) same
              (into_views view all x
              (Contains-permutation sorted all x (IsPermutation-sym all sorted whole)
              (Contains-from_dedup E sorted x within))),
          λ there.
              let (x, within, same) = from_views view all v there in
              let (k, y, inside, stands, equal) = Any-dedup
              (subst IsEquivalence (λ i x y. sym (ties x y) i) (on_equiv view (eq_by_cmp_equiv total))) sorted x
              (Contains-permutation all sorted x whole within) in
              subst (Contains (map view (dedup E sorted))) (sym (same_view x y equal) ∙ same)
              (into_views view (dedup E sorted) y (k, inside, stands)),
        ),
        rising_views view cmp (dedup E sorted)
            (IsStrictlySortedBy-dedup (on_total view total) {E = E} ties sorted up),
      )

-- texts by their bytes
pub are_once : {Z : Type 0} (paths sorted once : List (String Z)) → IsPermutation paths sorted
    → IsSorted (λ (a b : String Z). slice_cmp nat_cmp (string_bytes a) (string_bytes b)) sorted
    → once ≡ dedup string_eq sorted → AreOnce (map string_bytes paths) (map string_bytes once)
are_once paths sorted once whole up is =
    let all = each_once string_bytes (slice_cmp nat_cmp) nat_list_cmp_total equal_texts string_eq
    (λ x y. texts_ties (string_bytes x) (string_bytes y)) paths sorted once whole up is in
    record { same = all.0; ascends = all.1 }
