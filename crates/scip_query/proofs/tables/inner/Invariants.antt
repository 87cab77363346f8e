use Rattle.std.proofs.Common.{take}
use Rattle.std.specs.List.{AllZip}
use Rattle.scip_query.specs.Tables.Searches.{IsInnermostFirst}
use Rattle.scip_query.proofs.tables.inner.Given as goal

-- a table for each of the documents so far
abbrev pub invariant-loop-document : goal.invariant-loop-document
invariant-loop-document l = AllZip IsInnermostFirst (take l.document-index l.documents) l.tables.items
