-- What is added to a list of what is told.
use Rattle.std.proofs.Common.{◌≡◌, ◌∙◌, inl, inr, ℕ, ◌+◌, ◌++◌, ◌≤◌, Some, List, [], ◌∷◌, length, sym, ap}
use Rattle.std.proofs.Common.{subst, arith}
use Rattle.std.specs.List.{Contains, slice_get}
use Rattle.std.proofs.lemmas.Bool.{cases_lt}
use Rattle.std.proofs.lemmas.Option.{same_Some, slice_get_within}
use Rattle.std.proofs.lemmas.List.Elements.{Contains-append_right, Contains-append_left, Contains-append_cases}
use Rattle.basics.proofs.ListLemmas.{in_front, in_nothing}
use Rattle.scip_build.specs.declared.omission.Omission.{Omission}
use Rattle.scip_build.specs.Telling.{Adds, FromFront}
use Rattle.basics.proofs.StrictOrderLemmas.{in_either}

module _ {X : Type 0} (IsOf : ℕ → X → Omission → Type 0) (xs : List X) where
  -- one element more
  pub adds_more : (count : ℕ) (element : X) (old mid new : List Omission) → slice_get xs count ≡ Some element
      → Adds (FromFront IsOf xs count) old mid → Adds (IsOf count element) mid new
      → Adds (FromFront IsOf xs (count + 1)) old new
  adds_more count element old mid new at before now = λ x. (
    λ there. elim ((now x).0 there) [
      | inl earlier ↦ elim ((before x).0 earlier) [
        | inl kept ↦ inl kept
        | inr front ↦ inr (record {
          index = front.index;
          element = front.element;
          within = omega (arith, front.within);
          stands = front.stands;
          is = front.is;
        })
      ]
      | inr added ↦ inr (record { index = count; element = element; within = omega arith; stands = at; is = added })
    ],
    λ either. elim either [
      | inl kept ↦ (now x).1 (inl ((before x).1 (inl kept)))
      | inr front ↦ elim (cases_lt front.index count) [
        | inl less ↦ (now x).1 (inl
            ((before x).1 (inr (record
            { index = front.index; element = front.element; within = less; stands = front.stands; is = front.is }))))
        | inr last ↦ (
            let same : front.index ≡ count = omega (arith, last, front.within) in
            let one : front.element ≡ element =
            same_Some front.element element (sym front.stands ∙ (ap (slice_get xs) same ∙ at)) in
            let is = subst (λ (n : ℕ). IsOf n front.element x) same front.is in
            (now x).1 (inr (subst (λ (e : X). IsOf count e x) one is)))
      ]
    ],
  )

  pub adds_all : (count : ℕ) (old new : List Omission) → length xs ≤ count → Adds (FromFront IsOf xs count) old new
      → Adds (FromFront IsOf xs (length xs)) old new
  adds_all count old new past before = λ x. (
    λ there. elim ((before x).0 there) [
      | inl kept ↦ inl kept
      | inr front ↦ inr (record {
        index = front.index;
        element = front.element;
        within = slice_get_within xs front.index front.element front.stands;
        stands = front.stands;
        is = front.is;
      })
    ],
    λ either. elim either [
      | inl kept ↦ (before x).1 (inl kept)
      | inr front ↦ (before x).1
          (inr (record {
            index = front.index;
            element = front.element;
            within = omega (arith, front.within, past);
            stands = front.stands;
            is = front.is;
          }))
    ],
  )

pub adds_none : (Is : Omission → Type 0) (told : List Omission) → ((x : Omission) → Is x → ⊥) → Adds Is told told
adds_none Is told none = λ x. (
  λ there. inl there,
  λ either. elim either [
    | inl there ↦ there
    | inr is ↦ absurd (none x is)
  ],
)

pub adds_one : (Is : Omission → Type 0) (told : List Omission) (one : Omission) → Is one
    → ((x : Omission) → Is x → one ≡ x) → Adds Is told (told ++ one ∷ [])
adds_one Is told one is only = λ x. (
  λ there. elim (Contains-append_cases told (one ∷ []) x there) [
    | inl kept ↦ inl kept
    | inr last ↦ elim (in_either one [] x last) [
      | inl same ↦ inr (subst Is same is)
      | inr none ↦ absurd (in_nothing x none)
    ]
  ],
  λ either. elim either [
    | inl kept ↦ Contains-append_left told (one ∷ []) x kept
    | inr it ↦ Contains-append_right told (one ∷ []) x (subst (Contains (one ∷ [])) (only x it) (in_front one []))
  ],
)
