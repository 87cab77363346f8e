use Rattle.std.proofs.Common.{◌≡◌, ◌≤◌}
use Rattle.std.specs.List.{count_by}
use Rattle.scip_records.specs.declared.records.Document.{Document}
use Rattle.scip_query.specs.Outline.{is_inside}
use Rattle.scip_query.specs.Tables.{numbers}
use Rattle.scip_query.specs.Tables.Outlines.{AreDefinedIn, BeginIn}
use Rattle.scip_query.proofs.outline.depth_in.Given as goal

-- the symbols that begin as it does so far, and so many symbols around it
abbrev pub invariant-loop-number : goal.invariant-loop-number
invariant-loop-number l = record {
  few : l.depth ≤ l.number;
  before : l.from ≤ l.number;
  begun : (d : Document) → AreDefinedIn d l.table → BeginIn d l.symbol l.from l.run;
  counted : (d : Document) → AreDefinedIn d l.table
      → l.depth ≡ count_by (is_inside d l.symbol) (numbers l.number);
}
