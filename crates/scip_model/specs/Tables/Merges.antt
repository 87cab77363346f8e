-- Two lists in order made one.
use Rattle.std.specs.Prelude.{◌≡◌, ◌⊎◌, ◌↔◌, Option, Some, None, List, [], ◌∷◌, drop, Contains}
use Rattle.std.specs.declared.cmp.Ordering.{Ordering}
use Rattle.std.specs.declared.cmp.Ordering.TheVariants.{Less, Equal, Greater}
use Rattle.std.specs.List.Sorted.{IsStrictlySortedBy}

-- of items of the two lists, only equal ones are tied
abbrev pub AreUntied : {X : Type 0} → (X → X → Ordering) → (first second : List X) → Type 0
AreUntied cmp first second = (x y : _) → Contains first x → Contains second y → cmp x y ≡ Equal → x ≡ y

-- It has the items of both and no others, and ascends if both do.
pub record IsMerged {X : Type 0} (cmp : X → X → Ordering) (first second both : List X) : Type 0 where
  pub all : (x : X) → Contains both x ↔ (Contains first x ⊎ Contains second x)
  pub ascends : IsStrictlySortedBy cmp first → IsStrictlySortedBy cmp second → IsStrictlySortedBy cmp both

-- The same where the first list goes before: of the second it has what no item of the first is tied with.
abbrev pub NoneTied : {X : Type 0} → (X → X → Ordering) → List X → X → Type 0
NoneTied cmp first x = (other : _) → Contains first other → cmp other x ≡ Equal → ⊥

pub record IsMergedApart {X : Type 0} (cmp : X → X → Ordering) (first second both : List X) : Type 0 where
  pub all : (x : X) → Contains both x ↔ (Contains first x ⊎ (Contains second x × NoneTied cmp first x))
  pub ascends : IsStrictlySortedBy cmp both

-- Of a list in which only equal items are tied, the ascending list of its items.
pub record IsMadeSingle {X : Type 0} (cmp : X → X → Ordering) (list once : List X) : Type 0 where
  pub all : AreUntied cmp list list → (x : X) → Contains once x ↔ Contains list x
  pub ascends : IsStrictlySortedBy cmp once

abbrev pub first_of : {X : Type 0} → List X → Option X
first_of [] = None
first_of (x ∷ xs) = Some x

-- how the first item of one list compares with that of another; nothing comes after everything
abbrev pub fronts_cmp : {X : Type 0} → (X → X → Ordering) → List X → List X → Ordering
fronts_cmp cmp [] ys = Greater
fronts_cmp cmp (x ∷ xs) [] = Less
fronts_cmp cmp (x ∷ xs) (y ∷ ys) = cmp x y

-- The lesser of the two first items leaves; of two that are tied both leave.
abbrev pub TakesLeast : {X : Type 0} → Ordering → (first second : List X) → Option X → (first_left second_left : List X)
    → Type 0
TakesLeast Less first second next first_left second_left =
    (next ≡ first_of first) × (first_left ≡ drop 1 first) × (second_left ≡ second)
TakesLeast Equal first second next first_left second_left =
    (next ≡ first_of first) × (first_left ≡ drop 1 first) × (second_left ≡ drop 1 second)
TakesLeast Greater first second next first_left second_left =
    (next ≡ first_of second) × (first_left ≡ first) × (second_left ≡ drop 1 second)
