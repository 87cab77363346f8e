-- The numbers of the files of a kind, as they are collected in order.
use Rattle.std.proofs.Common.{◌≡◌, ◌↔◌, inl, inr, ℕ, ◌+◌, ◌-◌, ◌<◌, ◌≤◌, List, [], ◌∷◌, ◌++◌, length, eqb, get_or}
use Rattle.std.proofs.Common.{subst, arith}
use Rattle.std.specs.List.{Contains, IsDistinct, list_any}
use Rattle.std.specs.List.Sorted.{IsNonDecreasing}
use Rattle.std.proofs.lemmas.Bool.{cases_lt, cases_Bool, eqb-true}
use Rattle.std.proofs.lemmas.List.Elements.{Contains-append_left, Contains-get_or, Contains-push, Contains-push_cases}
use Rattle.std.proofs.lemmas.Cmp.{nat_eq_equiv}
use Rattle.std.proofs.lemmas.List.Sorted.{IsNonDecreasingBy-push}
use Rattle.std.proofs.lemmas.Map.Keys.{IsDistinct-push}
use Rattle.std.proofs.lemmas.Map.Views.{Contains-from_any}

-- those of this kind among the first so many files, each once, in order
pub record AreThoseUpTo (P : ℕ → Type 0) (count : ℕ) (numbers : List ℕ) : Type 0 where
  pub distinct : IsDistinct eqb numbers
  pub in_order : IsNonDecreasing numbers
  pub each : (number : ℕ) → Contains numbers number ↔ ((number < count) × P number)

no_numbers : IsDistinct eqb []
unfolding IsDistinct
no_numbers = tt

module _ (P : ℕ → Type 0) where
  pub those_none : AreThoseUpTo P 0 []
  those_none = record {
    distinct = no_numbers;
    in_order = λ i j d less within. absurd (omega (arith, within));
    each = λ number. (λ there. absurd (omega (arith, there.1)), λ is. absurd (omega (arith, is.0)));
  }

  pub those_skip : (count : ℕ) (numbers : List ℕ) → (P count → ⊥) → AreThoseUpTo P count numbers
      → AreThoseUpTo P (count + 1) numbers
  those_skip count numbers isnt so_far = record {
    distinct = so_far.distinct;
    in_order = so_far.in_order;
    each = λ number. (
      λ there. (let is = (so_far.each number).0 there in (omega (arith, is.0), is.1)),
      λ is. elim (cases_lt number count) [
        | inl before ↦ (so_far.each number).1 (before, is.1)
        | inr last ↦ (let here : number ≡ count = omega (arith, is.0) in absurd (isnt (subst P here is.1)))
      ],
    );
  }

  in_order_more : (count : ℕ) (numbers : List ℕ) → AreThoseUpTo P count numbers
      → IsNonDecreasing (numbers ++ count ∷ [])
  in_order_more count numbers so_far =
      IsNonDecreasingBy-push (λ number. number) numbers count so_far.in_order (λ d some.
      let last = length numbers - 1 in
      let below = ((so_far.each (get_or numbers last d)).0 (Contains-get_or numbers last d (omega (arith, some)))).0 in
      omega (arith, below))

  pub those_more : (count : ℕ) (numbers : List ℕ) → P count → AreThoseUpTo P count numbers
      → AreThoseUpTo P (count + 1) (numbers ++ count ∷ [])
  those_more count numbers is so_far = record {
    distinct = IsDistinct-push nat_eq_equiv numbers count so_far.distinct (elim (cases_Bool (list_any (eqb count) numbers)) [
      | inl there ↦ (let early = ((so_far.each count).0 (Contains-from_any eqb-true count numbers there)).0 in
          absurd (omega (arith, early)))
      | inr absent ↦ absent
    ]);
    in_order = in_order_more count numbers so_far;
    each = λ number. (
      λ there. elim (Contains-push_cases numbers count number there) [
        | inl before ↦ (let its = (so_far.each number).0 before in (omega (arith, its.0), its.1))
        | inr last ↦ (let here : count ≡ number = last in (omega (arith, here), subst P here is))
      ],
      λ its. elim (cases_lt number count) [
        | inl before ↦ Contains-append_left numbers (count ∷ []) number ((so_far.each number).1 (before, its.1))
        | inr last ↦ (let here : count ≡ number = omega (arith, its.0) in
            subst (Contains (numbers ++ count ∷ [])) here (Contains-push numbers count))
      ],
    );
  }

  pub those_all : (files count : ℕ) (numbers : List ℕ) → ((number : ℕ) → P number → number < files) → files ≤ count
      → AreThoseUpTo P count numbers → (number : ℕ) → Contains numbers number ↔ P number
  those_all files count numbers within all so_far number = (
    λ there. ((so_far.each number).0 there).1,
    λ is. (so_far.each number).1 ((let below = within number is in omega (arith, below, all)), is),
  )
