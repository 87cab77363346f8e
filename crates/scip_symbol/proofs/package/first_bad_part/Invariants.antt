use Rattle.std.proofs.Common.{map}
use Rattle.std.specs.String.{string_bytes}
use Rattle.scip_symbol.specs.Package.{ArePartsBelow}
use Rattle.scip_symbol.proofs.package.first_bad_part.Given as goal

abbrev pub invariant-loop-index : goal.invariant-loop-index
invariant-loop-index l = ArePartsBelow (map string_bytes l.parts) l.index
