-- What loops over lists have found so far, and how what is found goes from one call to another.
use Rattle.std.proofs.Common.{◌≡◌, ◌↔◌, inl, inr, ℕ, zero, suc, ◌+◌, ◌<◌, ◌≤◌, Bool, true, false, not, cond, List, []}
use Rattle.std.proofs.Common.{◌∷◌, ◌++◌}
use Rattle.std.proofs.Common.{length, Option, Some, None, Result, Ok, Err, MatchOption, IfOk, IfSome, IsTrue}
use Rattle.std.proofs.Common.{refl, ap, sym, ◌∙◌, subst, arith}
use Rattle.std.specs.List.{Contains, slice_get}
use Rattle.std.proofs.lemmas.Bool.{cases_lt, false≢true}
use Rattle.std.specs.Slice.{IsItemAt}
use Rattle.std.proofs.lemmas.Option.{same_Some, slice_get_past, slice_get-get_or}
use denote.Ref.{Bor}
use Rattle.std.proofs.lemmas.List.Elements.{Contains-append_left, Contains-push, Contains-push_cases}
use Rattle.basics.proofs.FirstLemmas.{contained, at_contained}
use Rattle.basics.proofs.ListLemmas.{in_nothing}

-- ---- what holds of the first so many

module _ {A : Type 0} (P : A → Type 0) (xs : List A) where
  abbrev pub UpTo : (count : ℕ) → Type 0
  UpTo count = (k : ℕ) (x : A) → k < count → slice_get xs k ≡ Some x → P x

  pub none_yet : UpTo 0
  none_yet k x h at = absurd (omega (arith, h))

  pub one_more : (count : ℕ) (x : A) → slice_get xs count ≡ Some x → P x → UpTo count → UpTo (count + 1)
  one_more count x at holds so_far k y h there = elim (cases_lt k count) [
    | inl before ↦ so_far k y before there
    | inr last ↦ (
        let here : count ≡ k = omega (arith, h, last) in
        subst P (same_Some x y (sym at ∙ (ap (slice_get xs) here ∙ there))) holds)
  ]

  pub all_of : (count : ℕ) → length xs ≤ count → UpTo count → (x : A) → Contains xs x → P x
  all_of count all so_far x there = so_far there.0 x (omega (arith, there.1, all)) (at_contained xs x there)

  pub not_all : (index : ℕ) (x : A) → slice_get xs index ≡ Some x → (P x → ⊥)
      → IsTrue false ↔ ((y : A) → Contains xs y → P y)
  not_all index x at fails = (
    λ t. absurd (false≢true t),
    λ all. absurd (fails (all x (contained xs index x at))),
  )

  pub all_hold : (count : ℕ) → length xs ≤ count → UpTo count → IsTrue true ↔ ((y : A) → Contains xs y → P y)
  all_hold count all so_far = (λ t. all_of count all so_far, λ every. refl)

-- ---- what is kept of the first so many

module _ {A B : Type 0} (f : A → B) (P : B → Type 0) (xs : List A) where
  abbrev pub Kept : (count : ℕ) → List B → Type 0
  Kept count ys = (y : B) → Contains ys y
      ↔ ((k : ℕ) × (x : A) × (k < count) × (slice_get xs k ≡ Some x) × (f x ≡ y) × P y)

  pub kept_none : Kept 0 []
  kept_none y = (λ there. absurd (in_nothing y there), λ its. absurd (omega (arith, its.2)))

  widen : (count : ℕ) (y : B) → ((k : ℕ) × (x : A) × (k < count) × (slice_get xs k ≡ Some x) × (f x ≡ y) × P y)
      → (k : ℕ) × (x : A) × (k < count + 1) × (slice_get xs k ≡ Some x) × (f x ≡ y) × P y
  widen count y its = (its.0, its.1, omega (arith, its.2), its.3, its.4, its.5)

  kept_by : (count : ℕ) (x : A) (ys : List B) (is : Bool) → slice_get xs count ≡ Some x → (IsTrue is ↔ P (f x))
      → Kept count ys → Kept (count + 1) (cond is (ys ++ f x ∷ []) ys)
  kept_by count x ys true at iff so_far y = (
    λ there. elim (Contains-push_cases ys (f x) y there) [
      | inl old ↦ widen count y ((so_far y).0 old)
      | inr same ↦ (count, x, omega arith, at, same, subst P same (iff.0 refl))
    ],
    λ its. elim (cases_lt its.0 count) [
      | inl before ↦ Contains-append_left ys (f x ∷ []) y
          ((so_far y).1 (its.0, its.1, before, its.3, its.4, its.5))
      | inr last ↦ (
          let here : count ≡ its.0 = omega (arith, its.2, last) in
          let same : x ≡ its.1 = same_Some x its.1 (sym at ∙ (ap (slice_get xs) here ∙ its.3)) in
          subst (Contains (ys ++ f x ∷ [])) (ap f same ∙ its.4) (Contains-push ys (f x)))
    ],
  )
  kept_by count x ys false at iff so_far y = (
    λ there. widen count y ((so_far y).0 there),
    λ its. elim (cases_lt its.0 count) [
      | inl before ↦ (so_far y).1 (its.0, its.1, before, its.3, its.4, its.5)
      | inr last ↦ (
          let here : count ≡ its.0 = omega (arith, its.2, last) in
          let same : x ≡ its.1 = same_Some x its.1 (sym at ∙ (ap (slice_get xs) here ∙ its.3)) in
          absurd (false≢true (iff.1 (subst P (sym (ap f same ∙ its.4)) its.5))))
    ],
  )

  pub kept_more : (count : ℕ) (x : A) (ys zs : List B) (is : Bool) → slice_get xs count ≡ Some x
      → (IsTrue is ↔ P (f x)) → zs ≡ cond is (ys ++ f x ∷ []) ys → Kept count ys → Kept (count + 1) zs
  kept_more count x ys zs is at iff made so_far =
      subst (Kept (count + 1)) (sym made) (kept_by count x ys is at iff so_far)

  pub kept_all : (count : ℕ) (ys : List B) → length xs ≤ count → Kept count ys → (y : B) → Contains ys y
      ↔ ((x : A) × Contains xs x × (f x ≡ y) × P y)
  kept_all count ys all so_far y = (
    λ there. (let its = (so_far y).0 there in (its.1, contained xs its.0 its.1 its.3, its.4, its.5)),
    λ its. (so_far y).1 (
      its.1.0,
      its.0,
      omega (arith, its.1.1, all),
      at_contained xs its.0 its.1,
      its.2,
      its.3,
    ),
  )

-- ---- what is found, by what a call finds

pub found_as : {X E : Type 0} (result : Result (Option X) E) (N M : Type 0) (P Q : X → Type 0) → (N → M)
    → ((x : X) → P x → Q x) → IfOk result (λ found. MatchOption found N P) → IfOk result
    (λ found. MatchOption found M Q)
found_as (Ok None) N M P Q none some h = none h
found_as (Ok (Some x)) N M P Q none some h = some x h
found_as (Err e) N M P Q none some h = tt

pub option_as : {X : Type 0} (found : Option X) (N M : Type 0) (P Q : X → Type 0) → (N → M) → ((x : X) → P x → Q x)
    → MatchOption found N P → MatchOption found M Q
option_as None N M P Q none some h = none h
option_as (Some x) N M P Q none some h = some x h

pub ok_as : {X E : Type 0} (result : Result X E) (P Q : X → Type 0) → ((x : X) → P x → Q x) → IfOk result P
    → IfOk result Q
ok_as (Ok x) P Q each h = each x h
ok_as (Err e) P Q each h = tt

-- ---- tests

pub iff_as : (is : Bool) (P Q : Type 0) → (P → Q) → (Q → P) → (IsTrue is ↔ P) → IsTrue is ↔ Q
iff_as is P Q there back iff = (λ t. there (iff.0 t), λ q. iff.1 (back q))

pub not_iff : (is : Bool) (P Q : Type 0) → (IsTrue is ↔ P) → (Q → ⊥) → IsTrue (not is) ↔ (P → Q)
not_iff true P Q iff refutes = (λ t. absurd (false≢true t), λ h. absurd (refutes (h (iff.0 refl))))
not_iff false P Q iff refutes = (λ t p. absurd (false≢true (iff.1 p)), λ h. refl)

pub not_so : (is : Bool) (P : Type 0) → (IsTrue is ↔ P) → IsTrue (not is) ↔ (P → ⊥)
not_so true P iff = (λ t. absurd (false≢true t), λ h. absurd (h (iff.0 refl)))
not_so false P iff = (λ t p. absurd (false≢true (iff.1 p)), λ h. refl)

pub fails : (is : Bool) (P : Type 0) → (IsTrue is ↔ P) → is ≡ false → P → ⊥
fails is P iff unmet p = false≢true (sym unmet ∙ iff.1 p)

pub never_so : (P : Type 0) → (P → ⊥) → IsTrue false ↔ P
never_so P none = (λ t. absurd (false≢true t), λ p. absurd (none p))

-- ---- what is said of an option whose variant is known

pub some_of : {X : Type 0} {found : Option X} (N : Type 0) (P : X → Type 0) (x : X) → found ≡ Some x
    → MatchOption found N P → P x
some_of {found = None} N P x is told = absurd (none_is_some is)
  where
    none_is_some : None ≡ Some x → ⊥
    none_is_some e = cc
some_of {found = Some y} N P x is told = subst P (same_Some y x is) told

pub none_of : {X : Type 0} {found : Option X} (N : Type 0) (P : X → Type 0) → found ≡ None → MatchOption found N P
    → N
none_of {found = None} N P is told = told
none_of {found = Some y} N P is told = absurd (some_is_none is)
  where
    some_is_none : Some y ≡ None → ⊥
    some_is_none e = cc

pub some_const : {X : Type 0} (found : Option X) (P : Type 0) → P → IfSome found (λ x. P)
some_const None P p = tt
some_const (Some x) P p = p

-- what a slice gives at an index
pub at_get : {X : Type 0} (xs : List X) (i : ℕ) (found : Option (Bor X)) → IsItemAt xs i found
    → MatchOption found (slice_get xs i ≡ None) (λ x. slice_get xs i ≡ Some x.now)
at_get xs i None given = slice_get_past xs i given.3
at_get xs i (Some x) given = slice_get-get_or xs i x.now given.3.0 ∙ ap Some (sym (given.3.1 x.now))

pub found_flat : {X : Type 0} (xs : List (Option X)) (i : ℕ) (found : Option X) → slice_get xs i ≡ Some found
    → MatchOption found ((x : X) → slice_get xs i ≡ Some (Some x) → ⊥) (λ x. slice_get xs i ≡ Some (Some x))
found_flat xs i None at = λ x there. none_some x (same_Some None (Some x) (sym at ∙ there))
  where
    none_some : {Y : Type 0} (y : Y) → None ≡ Some y → ⊥
    none_some y e = cc
found_flat xs i (Some x) at = at

pub none_flat : {X : Type 0} (xs : List (Option X)) (i : ℕ) → slice_get xs i ≡ None → (x : X)
    → slice_get xs i ≡ Some (Some x) → ⊥
none_flat xs i none x at = none_some x (sym none ∙ at)
  where
    none_some : {Y : Type 0} (y : Y) → None ≡ Some (Some y) → ⊥
    none_some y e = cc

pub always_so : (P : Type 0) → P → IsTrue true ↔ P
always_so P p = (λ t. p, λ its. refl)

pub beyond : {X : Type 0} (xs : List X) (i : ℕ) → i < length xs → slice_get xs i ≡ None → ⊥
beyond [] i within none = omega (arith, within)
beyond (x ∷ xs) zero within none = some_none x none
  where
    some_none : {Y : Type 0} (y : Y) → Some y ≡ None → ⊥
    some_none y e = cc
beyond (x ∷ xs) (suc i) within none = beyond xs i (omega (arith, within)) none
