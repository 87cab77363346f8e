-- The paths of the tests of merging rise.
use Rattle.std.proofs.Common.{[], ◌∷◌, codes, refl}
use Rattle.std.specs.List.Sorted.{IsStrictlySortedBy}
use Rattle.scip_model.specs.Pieces.{IsRising}

pub two_rise : IsRising (codes "a.proto" ∷ codes "b.proto" ∷ [])
unfolding IsStrictlySortedBy
two_rise = ((refl, tt), (tt, tt))
