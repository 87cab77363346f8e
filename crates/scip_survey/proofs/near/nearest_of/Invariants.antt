use Rattle.std.proofs.Common.{◌≡◌, false, take}
use Rattle.std.specs.List.{list_any}
use Rattle.scip_survey.proofs.NearestNameLemmas.{is_nearest}
use Rattle.scip_survey.proofs.near.nearest_of.Given as goal

-- none of the names so far is the nearest
abbrev pub invariant-loop-name : goal.invariant-loop-name
invariant-loop-name l = list_any (is_nearest l.text l.names) (take l.name-index l.names) ≡ false
