use Rattle.std.proofs.Common.{take}
use Rattle.scip_query.specs.Tables.Searches.{entry_symbol_listed}
use Rattle.scip_query.specs.Tables.Groups.{gathered_at, AreGathered}
use Rattle.scip_query.proofs.tables.gathered_entries.Given as goal

-- the places so far are gathered
abbrev pub invariant-loop-place : goal.invariant-loop-place
invariant-loop-place l = AreGathered (entry_symbol_listed l.index) (take l.place-index l.places) (gathered_at l.groups)
