use Rattle.std.proofs.Common.{◌∙◌, ap, ◌++◌, [], ◌∷◌, ◌==◌, ℕ, cond}
use Rattle.scip_pages.specs.Listed.{listed_on}
use Rattle.scip_pages.proofs.SnapshotLemmas.{added}
use Rattle.scip_pages.proofs.lines.add.Goals as goal

pub returns-in_ok-push-clause-listed : goal.returns-in_ok-push-clause-listed
returns-in_ok-push-clause-listed c = λ number inside.
    added c.args.table.now c.start_line-line.result c.push.new.self c.index-table-line.result c.args.occurrence
    c.if-line-table.true c.in_ok-push.ensures.items number
    ∙ ap (λ (n : ℕ). listed_on c.args.table.now number ++ cond (n == number) (c.args.occurrence.now ∷ []) [])
    c.start_line-line.ensures.value
