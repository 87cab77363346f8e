use Rattle.std.proofs.Common.{◌≡◌, take}
use Rattle.scip_pages.specs.Columns.{units_in}
use Rattle.scip_pages.specs.ToldPlaces.{held}
use Rattle.scip_pages.proofs.told_places.units_in.Given as goal

-- so many so far
abbrev pub invariant-loop-byte : goal.invariant-loop-byte
invariant-loop-byte l = l.units ≡ held (units_in l.unit (take l.byte-index l.bytes))
