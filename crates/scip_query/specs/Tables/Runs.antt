-- Lists in which first comes what compares as less, then what compares as equal, and then what compares as greater.
use Rattle.std.specs.Prelude.{List}
use Rattle.std.specs.List.Sorted.{IsNonDecreasingBy}
use Rattle.std.specs.declared.cmp.Ordering.{Ordering}
use Rattle.std.specs.Ordering.{ordering_index}

abbrev pub Rises : {N : Type 0} → (N → Ordering) → List N → Type 0
Rises to names = IsNonDecreasingBy (λ n. ordering_index (to n)) names
