-- Paths of declarations, step by step.
use Rattle.std.proofs.Common.{◌≡◌, ◌↔◌, inl, inr, ℕ, ◌+◌, ◌<◌, ◌≤◌, Bool, List, [], ◌∷◌, ◌++◌, length, take, drop}
use Rattle.std.proofs.Common.{get_or}
use Rattle.std.proofs.Common.{Some, IsTrue, refl, ap, sym, ◌∙◌, arith}
use Rattle.std.specs.Str.{bytes_eq}
use Rattle.std.specs.List.{slice_get}
use Rattle.std.proofs.lemmas.Bool.{cases_lt}
use Rattle.std.proofs.lemmas.List.{same_lists, length-append, take-append-drop, take_at, drop_at}
use Rattle.std.proofs.lemmas.Option.{same_Some, slice_get-get_or}
use Rattle.std.proofs.lemmas.Slice.Eq.{bytes_eq-Decides}
use Rattle.proto_decl.specs.declared.declaration.DeclarationKind.{DeclarationKind}
use Rattle.proto_decl.specs.declared.declaration.DeclarationStep.{DeclarationStep}
use Rattle.option_link.proofs.LoopLemmas.{iff_as}

abbrev made : DeclarationKind → List ℕ → DeclarationStep
made kind name = record { kind = kind; name = name }

pub step_by : (a b : DeclarationStep) (x y : List ℕ) (is : Bool) → a.kind ≡ b.kind → x ≡ a.name → y ≡ b.name
    → is ≡ bytes_eq x y → IsTrue is ↔ (a ≡ b)
step_by a b x y is kind first second test = (
  λ t. (let same : a.name ≡ b.name = sym first ∙ ((bytes_eq-Decides x y).0 (sym test ∙ t) ∙ second) in
      ap (λ (k : DeclarationKind). made k a.name) kind ∙ ap (made b.kind) same),
  λ same. test ∙ (bytes_eq-Decides x y).1
      (first ∙ (ap (λ (s : DeclarationStep). s.name) same ∙ sym second)),
)

-- the first so many are the same
abbrev pub SameUpTo : (steps others : List DeclarationStep) → (count : ℕ) → Type 0
SameUpTo steps others count = (k : ℕ) (a b : DeclarationStep) → k < count → slice_get steps k ≡ Some a
    → slice_get others k ≡ Some b → a ≡ b

pub same_none : (steps others : List DeclarationStep) → SameUpTo steps others 0
same_none steps others k a b before at there = absurd (omega (arith, before))

pub same_more : (steps others : List DeclarationStep) (count : ℕ) (a b : DeclarationStep)
    → slice_get steps count ≡ Some a → slice_get others count ≡ Some b → a ≡ b → SameUpTo steps others count
    → SameUpTo steps others (count + 1)
same_more steps others count a b at there same so_far k x y before first second = elim (cases_lt k count) [
  | inl less ↦ so_far k x y less first second
  | inr last ↦ (
      let here : count ≡ k = omega (arith, before, last) in
      sym (same_Some a x (sym at ∙ (ap (slice_get steps) here ∙ first)))
      ∙ (same ∙ same_Some b y (sym there ∙ (ap (slice_get others) here ∙ second))))
]

pub same_all : (steps others : List DeclarationStep) (count : ℕ) → length steps ≡ length others
    → length steps ≤ count → SameUpTo steps others count → steps ≡ others
same_all steps others count size all so_far = same_lists steps others size (λ k d within.
    so_far k (get_or steps k d) (get_or others k d) (omega (arith, within, all))
    (slice_get-get_or steps k d within) (slice_get-get_or others k d (omega (arith, within, size))))

-- ---- one more step

push_same : (xs ys : List DeclarationStep) (a b : DeclarationStep) → xs ++ a ∷ [] ≡ ys ++ b ∷ [] → xs ≡ ys
push_same [] [] a b e = refl
push_same [] (y ∷ ys) a b e = absurd (omega (arith, ap length e, length-append ys (b ∷ [])))
push_same (x ∷ xs) [] a b e = absurd (omega (arith, ap length e, length-append xs (a ∷ [])))
push_same (x ∷ xs) (y ∷ ys) a b e =
    let rest = push_same xs ys a b (ap (drop 1) e) in
    let first : x ≡ y = same_first x y (xs ++ a ∷ []) (ys ++ b ∷ []) e in
    ap (λ (s : DeclarationStep). s ∷ xs) first ∙ ap (λ (l : List DeclarationStep). y ∷ l) rest
  where
    same_first : (p q : DeclarationStep) (l m : List DeclarationStep) → p ∷ l ≡ q ∷ m → p ≡ q
    same_first p q l m same = cc

pub inside_by : (inner around outer front : List DeclarationStep) (tail last : DeclarationStep) (is : Bool)
    → inner ≡ around ++ tail ∷ [] → outer ≡ front ++ last ∷ [] → (IsTrue is ↔ (around ≡ front ++ last ∷ []))
    → IsTrue is ↔ ((step : DeclarationStep) × (inner ≡ outer ++ step ∷ []))
inside_by inner around outer front tail last is whole its iff = iff_as is (around ≡ front ++ last ∷ [])
    ((step : DeclarationStep) × (inner ≡ outer ++ step ∷ []))
    (λ same. (tail, whole ∙ ap (λ (l : List DeclarationStep). l ++ tail ∷ []) (same ∙ sym its)))
    (λ one. push_same around (front ++ last ∷ []) tail one.0
    (sym whole ∙ (one.1 ∙ ap (λ (l : List DeclarationStep). l ++ one.0 ∷ []) its))) iff

module _ (steps front : List DeclarationStep) (last : DeclarationStep) where
  pub too_few : length steps < length front → steps ≡ front ++ last ∷ [] → ⊥
  too_few few same = omega (arith, few, ap length same, length-append front (last ∷ []))

  pub other_front : (start : List DeclarationStep) → start ≡ take (length front) steps → (start ≡ front → ⊥)
      → steps ≡ front ++ last ∷ [] → ⊥
  other_front start is not same =
      not (is ∙ (ap (take (length front)) same ∙ take_at front (last ∷ []) (length front) refl))

  pub with_last : (start end : List DeclarationStep) (one : Bool) → start ≡ take (length front) steps
      → end ≡ drop (length front) steps → start ≡ front → (IsTrue one ↔ (end ≡ last ∷ []))
      → IsTrue one ↔ (steps ≡ front ++ last ∷ [])
  with_last start end one is behind same iff = iff_as one (end ≡ last ∷ []) (steps ≡ front ++ last ∷ [])
      (λ only. sym (take-append-drop (length front) steps)
      ∙ (ap (λ (l : List DeclarationStep). l ++ drop (length front) steps) (sym is ∙ same)
      ∙ ap (λ (l : List DeclarationStep). front ++ l) (sym behind ∙ only)))
      (λ whole. behind ∙ (ap (drop (length front)) whole ∙ drop_at front (last ∷ []) (length front) refl)) iff

-- one step
pub only_step : (steps : List DeclarationStep) (one step : DeclarationStep) (is : Bool) → length steps ≡ 1
    → one ≡ get_or steps 0 one → (IsTrue is ↔ (one ≡ step)) → IsTrue is ↔ (steps ≡ step ∷ [])
only_step [] one step is size first iff = absurd (omega (arith, size))
only_step (s ∷ []) one step is size first iff = iff_as is (one ≡ step) (s ∷ [] ≡ step ∷ [])
    (λ same. ap (λ (x : DeclarationStep). x ∷ []) (sym first ∙ same)) (λ same. first ∙ same_head s step same) iff
  where
    same_head : (p q : DeclarationStep) → p ∷ [] ≡ q ∷ [] → p ≡ q
    same_head p q e = cc
only_step (s ∷ (r ∷ rs)) one step is size first iff = absurd (omega (arith, size))
