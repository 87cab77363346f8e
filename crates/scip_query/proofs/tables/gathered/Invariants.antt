use Rattle.std.proofs.Common.{take}
use Rattle.scip_query.specs.Tables.{symbol_listed}
use Rattle.scip_query.specs.Tables.Groups.{gathered_at, AreGathered}
use Rattle.scip_query.proofs.tables.gathered.Given as goal

-- the places so far are gathered
abbrev pub invariant-loop-place : goal.invariant-loop-place
invariant-loop-place l = AreGathered (symbol_listed l.documents) (take l.place-index l.places) (gathered_at l.groups)
