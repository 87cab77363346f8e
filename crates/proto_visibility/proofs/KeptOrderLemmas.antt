-- The order in which files are taken: sources first, and each kind by number.
use Rattle.std.proofs.Common.{◌≡◌, ◌⊎◌, inl, inr, ℕ, ◌<◌, Bool, true, false, Option, Some, None, List, refl, ap, sym, ◌∙◌}
use Rattle.std.proofs.Common.{subst, arith}
use Rattle.std.specs.List.{slice_get}
use Rattle.std.proofs.lemmas.Bool.{cases_order, false≢true}
use Rattle.std.proofs.lemmas.Option.{same_Some}
use Rattle.proto_visibility.specs.Files.{File, IsSource}
use Rattle.proto_visibility.specs.Kept.{IsTakenBefore}
use Rattle.proto_visibility.specs.Kept.IsTakenBefore.{of_sources, source_first, of_others}
use Rattle.proto_visibility.proofs.ClashLemmas.{IsOneWay}

module _ (files : List File) where
  pub source_or_not : (number : ℕ) → IsSource files number ⊎ (IsSource files number → ⊥)
  source_or_not number = by (slice_get files number) refl
    where
      flags : (file : File) → slice_get files number ≡ Some file → (included out : Bool) → file.is_included ≡ included
          → file.is_left_out ≡ out → IsSource files number ⊎ (IsSource files number → ⊥)
      flags file at false false source present =
          inl (record { file = file; numbered = at; source = source; present = present })
      flags file at true out included _ = inr (λ is.
          let same : is.file ≡ file = same_Some is.file file (sym is.numbered ∙ at) in
          false≢true (sym is.source ∙ (ap (λ (f : File). f.is_included) same ∙ included)))
      flags file at false true _ left = inr (λ is.
          let same : is.file ≡ file = same_Some is.file file (sym is.numbered ∙ at) in
          false≢true (sym is.present ∙ (ap (λ (f : File). f.is_left_out) same ∙ left)))

      by : (o : Option File) → slice_get files number ≡ o → IsSource files number ⊎ (IsSource files number → ⊥)
      by None at = inr (λ is. nothing is.file (sym at ∙ is.numbered))
        where
          nothing : (file : File) → None ≡ Some file → ⊥
          nothing file e = cc
      by (Some file) at = flags file at file.is_included file.is_left_out refl refl

  pub taken_one_way : IsOneWay (IsTakenBefore files)
  taken_one_way m n (of_sources a b h) (of_sources c d k) = omega arith
  taken_one_way m n (of_sources a b h) (source_first c d) = d a
  taken_one_way m n (of_sources a b h) (of_others c d k) = c b
  taken_one_way m n (source_first a b) (of_sources c d k) = b c
  taken_one_way m n (source_first a b) (source_first c d) = b c
  taken_one_way m n (source_first a b) (of_others c d k) = d a
  taken_one_way m n (of_others a b h) (of_sources c d k) = a d
  taken_one_way m n (of_others a b h) (source_first c d) = b c
  taken_one_way m n (of_others a b h) (of_others c d k) = omega arith

  -- of two files one is taken before the other
  pub taken_either : (m n : ℕ) → m < n → IsTakenBefore files m n ⊎ IsTakenBefore files n m
  taken_either m n less = elim (source_or_not m) [
    | inl m_is ↦ elim (source_or_not n) [
      | inl n_is ↦ inl (of_sources m_is n_is less)
      | inr n_isnt ↦ inl (source_first m_is n_isnt)
    ]
    | inr m_isnt ↦ elim (source_or_not n) [
      | inl n_is ↦ inr (source_first n_is m_isnt)
      | inr n_isnt ↦ inl (of_others m_isnt n_isnt less)
    ]
  ]

  pub taken_ordered : (m n : ℕ) → (m ≡ n) ⊎ (IsTakenBefore files m n ⊎ IsTakenBefore files n m)
  taken_ordered m n = elim (cases_order m n) [
    | inl same ↦ inl same
    | inr apart ↦ inr (elim apart [
      | inl less ↦ taken_either m n less
      | inr more ↦ elim (taken_either n m more) [ inl front ↦ inr front | inr back ↦ inl back ]
    ])
  ]

  pub taken_apart : (m n : ℕ) → IsTakenBefore files m n → (m < n) ⊎ (n < m)
  taken_apart m n (of_sources a b h) = inl h
  taken_apart m n (source_first a b) = elim (cases_order m n) [
    | inl same ↦ absurd (b (subst (IsSource files) same a))
    | inr apart ↦ apart
  ]
  taken_apart m n (of_others a b h) = inl h

  -- only sources are taken before a source
  pub before_source : (m n : ℕ) → IsTakenBefore files m n → IsSource files n → IsSource files m × (m < n)
  before_source m n (of_sources a b h) is = (a, h)
  before_source m n (source_first a b) is = absurd (b is)
  before_source m n (of_others a b h) is = absurd (b is)
