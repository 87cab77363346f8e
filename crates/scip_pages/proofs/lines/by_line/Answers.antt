use Rattle.scip_pages.proofs.SnapshotLemmas.{none_listed}
use Rattle.scip_pages.proofs.lines.by_line.Goals as goal

pub loop-occurrence-init : goal.loop-occurrence-init
loop-occurrence-init c =
    record {
      count = c.in_ok-table.ensures.count;
      listed = λ number inside. none_listed c.in_ok-table.table.items c.in_ok-table.ensures.empty number;
    }
