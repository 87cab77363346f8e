use Rattle.std.proofs.Common.{◌≡◌, ◌++◌, map, take}
use Rattle.scip_build.specs.Made.{place_in}
use Rattle.scip_build.proofs.unresolved_uses.push_places.Given as goal

abbrev pub invariant-loop-span : goal.invariant-loop-span
invariant-loop-span l = l.places.items ≡ l.fn.places.items ++ map (place_in l.file) (take l.span-index l.spans)
