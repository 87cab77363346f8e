use Rattle.std.proofs.Common.{◌≡◌, take}
use Rattle.std.specs.List.{filter}
use Rattle.scip_query.specs.Tables.{defines_listed}
use Rattle.scip_query.proofs.lookups.defining.Given as goal

-- those of the places so far
abbrev pub invariant-loop-place : goal.invariant-loop-place
invariant-loop-place l = l.found.items ≡ filter (defines_listed l.documents) (take l.place-index l.places)
