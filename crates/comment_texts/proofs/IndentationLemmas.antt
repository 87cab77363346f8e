-- The common indentation, line by line.
use Rattle.std.proofs.Common.{◌≡◌, ◌∙◌, sym, ap, refl, ℕ, ◌≤◌, List, [], ◌∷◌, map, min, true, false, cond}
use Rattle.std.proofs.Common.{length, drop}
use Rattle.std.specs.Prelude.{Option, Some, None}
use Rattle.std.specs.List.{filter, reduce, fold, flat_map}
use Rattle.std.specs.Option.{unwrap_or}
use Rattle.std.proofs.lemmas.List.{drop_all}
use Rattle.comment_texts.specs.Lines.{indentation, has_words, common_indentation}
use Rattle.comment_texts.specs.Steps.{lesser, least_with}

-- with a least number so far, it is the least of that and the others
from_some : (n : ℕ) (lines : List (List ℕ))
    → fold least_with (Some n) lines ≡ Some (fold min n (map indentation (filter has_words lines)))
from_some n [] = refl
from_some n (line ∷ lines) =
    elim (has_words line) as (λ t. fold least_with (cond t (lesser (Some n) (indentation line)) (Some n)) lines
    ≡ Some (fold min n (map indentation (cond t (line ∷ filter has_words lines) (filter has_words lines))))) [
      | true ↦ from_some (min n (indentation line)) lines
      | false ↦ from_some n lines
    ]

from_none : (lines : List (List ℕ))
    → fold least_with None lines ≡ reduce min (map indentation (filter has_words lines))
from_none [] = refl
from_none (line ∷ lines) =
    elim (has_words line) as (λ t. fold least_with (cond t (lesser None (indentation line)) None) lines
    ≡ reduce min (map indentation (cond t (line ∷ filter has_words lines) (filter has_words lines)))) [
      | true ↦ from_some (indentation line) lines
      | false ↦ from_none lines
    ]

-- what is found line by line is the common indentation
pub is_common : (lines : List (List ℕ)) → unwrap_or (fold least_with None lines) 0 ≡ common_indentation lines
is_common lines = ap (λ (least : Option ℕ). unwrap_or least 0) (from_none lines)

-- the end of a loop: all are counted
pub all_counted : {X Y : Type 0} (f : Y → List (List ℕ)) (g : X → Y) (least : Option ℕ) (items : List X) (n : ℕ)
    → length items ≤ n
    → fold least_with least (flat_map f (map g (drop n items))) ≡ fold least_with None (flat_map f (map g items))
    → unwrap_or least 0 ≡ common_indentation (flat_map f (map g items))
all_counted f g least items n within same =
    let none : fold least_with least (flat_map f (map g (drop n items))) ≡ least =
    ap (λ xs. fold least_with least (flat_map f (map g xs))) (drop_all n items within) in
    ap (λ (o : Option ℕ). unwrap_or o 0) (sym none ∙ same) ∙ is_common (flat_map f (map g items))
