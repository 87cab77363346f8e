use Rattle.scip_pages.proofs.CodeTextLemmas.{none_listed}
use Rattle.scip_pages.proofs.code_table.by_line.Goals as goal

pub loop-number-init : goal.loop-number-init
loop-number-init c =
    record {
      count = c.in_ok-table.ensures.count;
      listed = λ line inside. none_listed c.in_ok-table.table.items c.in_ok-table.ensures.empty line;
    }
