-- A list that is made from the front, an item at a time.
use Rattle.std.proofs.Common.{◌≡◌, ◌∙◌, ◌++◌, ◌+◌, ap, sym, ℕ, Some, List, [], ◌∷◌, take}
use Rattle.std.specs.List.{slice_get}
use Rattle.std.proofs.lemmas.List.{take_more}
use Rattle.std.proofs.lemmas.Option.{slice_get_within, get_or_from_slice_get}

-- one more
pub front_more : {X : Type 0} (all made new : List X) (n : ℕ) (item x : X) → made ≡ take n all
    → slice_get all n ≡ Some item → x ≡ item → new ≡ made ++ x ∷ [] → new ≡ take (n + 1) all
front_more {X} all made new n item x so_far is same pushed =
    pushed
    ∙ (ap (λ (xs : List X). xs ++ x ∷ []) so_far
    ∙ (ap (λ (y : X). take n all ++ y ∷ []) (same ∙ sym (get_or_from_slice_get all n item item is))
    ∙ sym (take_more all n item (slice_get_within all n item is))))
