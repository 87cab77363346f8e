use Rattle.scip_pages.proofs.CodeTextLemmas.{added}
use Rattle.scip_pages.proofs.code_table.add_on.Goals as goal

pub returns-in_ok-push-clause-listed : goal.returns-in_ok-push-clause-listed
returns-in_ok-push-clause-listed c = λ at inside.
    added c.args.table.now c.args.line c.push.new.self c.index-table-line.result c.args.number
    c.if-line-table.true c.in_ok-push.ensures.items at
