-- Texts in order, among which one is looked for; and texts that are among others.
use Rattle.std.proofs.Common.{◌≡◌, inl, inr, ℕ, Bool}
use Rattle.std.proofs.Common.{true, false, List, [], ◌∷◌, length, map, get_or}
use Rattle.std.proofs.Common.{Result, Ok, Err, refl, sym, ◌∙◌, ap, arith, ◌||◌}
use Rattle.std.specs.declared.cmp.Ordering.{Ordering}
use Rattle.std.specs.declared.cmp.Ordering.TheVariants.{Less, Equal, Greater}
use Rattle.std.specs.Ordering.{nat_cmp, is_eq}
use Rattle.std.specs.Cmp.Lexicographic.{slice_cmp}
use Rattle.std.specs.List.{list_any}
use Rattle.std.specs.List.Sorted.{IsBinarySearchResult, IsSearchInRange}
use Rattle.std.specs.Str.{bytes_eq}
use denote.Ref.{Bor}
use Rattle.std.proofs.lemmas.Bool.{cases_lt}
use Rattle.std.proofs.lemmas.Cmp.{nat_list_cmp_total}
use Rattle.std.proofs.lemmas.List.Folds.{list_any_at, list_any_none}
use Rattle.std.proofs.lemmas.List.Sorted.{searchable_from_sorted}
use Rattle.std.proofs.lemmas.Map.Text.{is_eq-slice_cmp}
use Rattle.scip_join.specs.Tables.{texts, is_among, AreInOrder}

pub any-map : {X Y : Type 0} (p : Y → Bool) (f : X → Y) (xs : List X)
    → list_any p (map f xs) ≡ list_any (λ x. p (f x)) xs
any-map p f [] = refl
any-map p f (x ∷ xs) = ap (λ b. p (f x) || b) (any-map p f xs)

is_not : (y : Bor (List ℕ)) (text : List ℕ) (r : Ordering) → slice_cmp nat_cmp y.now text ≡ r → is_eq r ≡ false
    → bytes_eq y.now text ≡ false
is_not y text r e apart = sym (is_eq-slice_cmp y.now text) ∙ ap is_eq e ∙ apart

is_one : (y : Bor (List ℕ)) (text : List ℕ) → slice_cmp nat_cmp y.now text ≡ Equal → bytes_eq y.now text ≡ true
is_one y text e = sym (is_eq-slice_cmp y.now text) ∙ ap is_eq e

abbrev found : Result ℕ ℕ → Bool
found (Ok i) = true
found (Err i) = false

pub among : (xs : List (Bor (List ℕ))) (text : List ℕ) (r : Result ℕ ℕ) → AreInOrder xs
    → IsSearchInRange r (length xs) → IsBinarySearchResult (λ (y : Bor (List ℕ)). slice_cmp nat_cmp y.now text) xs r
    → found r ≡ is_among (texts xs) text
among [] text (Ok i) sorted within at = absurd (omega (arith, within))
among (x ∷ xs) text (Ok i) sorted within at =
    sym (any-map (λ (t : List ℕ). bytes_eq t text) (λ (y : Bor (List ℕ)). y.now) (x ∷ xs)
    ∙ list_any_at (λ (y : Bor (List ℕ)). bytes_eq y.now text) (x ∷ xs) i x within
    (is_one (get_or (x ∷ xs) i x) text (at x)))
among xs text (Err i) sorted within at =
    let parted = at (searchable_from_sorted nat_list_cmp_total (λ (y : Bor (List ℕ)). y.now) xs text sorted) in
    sym (any-map (λ (t : List ℕ). bytes_eq t text) (λ (y : Bor (List ℕ)). y.now) xs
    ∙ list_any_none (λ (y : Bor (List ℕ)). bytes_eq y.now text) xs (λ k d inside. elim (cases_lt k i) [
      | inl less ↦ is_not (get_or xs k d) text Less (parted.0 k d (omega arith) less) refl
      | inr more ↦ is_not (get_or xs k d) text Greater (parted.1 k d more inside) refl
    ]))
