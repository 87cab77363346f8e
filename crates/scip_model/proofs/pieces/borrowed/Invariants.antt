use Rattle.std.proofs.Common.{◌≡◌, map, take}
use Rattle.std.specs.String.{string_bytes}
use Rattle.scip_model.specs.Pieces.{texts}
use Rattle.scip_model.proofs.pieces.borrowed.Given as goal

abbrev pub invariant-paths : goal.invariant-paths
invariant-paths l = texts l.list.items ≡ map string_bytes (take l.path-index l.paths)
