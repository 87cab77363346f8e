-- A list in an order: what compares as equal stays in the order that it had.
use Rattle.std.specs.Prelude.{cond, List, [], ◌∷◌}
use Rattle.std.specs.declared.cmp.Ordering.{Ordering}
use Rattle.std.specs.Ordering.{is_lt}

-- with one more, behind those at the front that are less
abbrev pub with_sorted : {X : Type 0} → (X → X → Ordering) → X → List X → List X
with_sorted cmp new [] = new ∷ []
with_sorted cmp new (x ∷ xs) = cond (is_lt (cmp x new)) (x ∷ with_sorted cmp new xs) (new ∷ x ∷ xs)

abbrev pub sorted_by : {X : Type 0} → (X → X → Ordering) → List X → List X
sorted_by cmp [] = []
sorted_by cmp (x ∷ xs) = with_sorted cmp x (sorted_by cmp xs)
