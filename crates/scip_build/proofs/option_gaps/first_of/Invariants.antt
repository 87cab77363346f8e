-- The first of the places so far.
use Rattle.std.proofs.Common.{◌∷◌, take}
use Rattle.std.specs.List.{Contains}
use Rattle.scip_build.specs.Documents.{IsFirstPlace}
use Rattle.scip_build.proofs.option_gaps.first_of.Given as goal

abbrev pub invariant-loop-place : goal.invariant-loop-place
invariant-loop-place l = IsFirstPlace (Contains (l.fn.first ∷ take l.place-index l.others)) l.least
