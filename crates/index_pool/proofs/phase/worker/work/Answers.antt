use Rattle.std.proofs.Common.{◌∙◌, ap, sym, subst, true≢false, sum_by, arith}
use Rattle.std.specs.Prelude.{Result}
use Rattle.std.proofs.lemmas.List.Elements.{All-same, All-nil}
use Rattle.index_pool.proofs.LaneEndsLemmas.{popped_trans as popped_on}
use Rattle.index_pool.specs.declared.lanes.ends.LaneOwner.{LaneOwner}
use Rattle.index_pool.specs.declared.lanes.rule.LaneView.{LaneView}
use Rattle.index_pool.specs.declared.phase.worker.Ran.{Ran}
use Rattle.index_pool.specs.LaneEnds.{owner_view, found_empty}
use Rattle.index_pool.specs.Tables.PhaseSteps.{PoppedMore, weight}
use Rattle.index_pool.proofs.LaneEndTakenLemmas.{at_ok}
use Rattle.index_pool.proofs.phase.worker.work.Goals as goal
use Rattle.index_pool.proofs.phase.worker.work.Goals.{then-starved, else-starved}

pub returns : goal.returns
returns g c =
    let both = c.run_both.ensures in record {
      owner = (elim c.if-starved.branch [
        | then-starved w ↦ subst (PoppedMore c.args.post.owner) (sym w.owner-is)
            (popped_on c.args.post.owner c.run_both.new.owner w.drain.new.owner both.owner w.drain.ensures.popped)
        | else-starved w ↦ subst (PoppedMore c.args.post.owner) (sym w.owner-is) both.owner
      ]);
      thief = both.thief;
      emptied = (elim c.if-starved.branch [
        | then-starved w ↦ ap found_empty w.owner-is ∙ w.drain.ensures.emptied
        | else-starved w ↦ ap found_empty w.owner-is
            ∙ at_ok c.run_both.result both.emptied (sym c.is_err-starved.ensures.value ∙ w.if-starved.false)
      ]);
      tried = λ fed. at_ok c.run_both.result both.tried (sym c.is_err-starved.ensures.value ∙ fed);
      answers = both.answers (All-same
          (λ (r : Ran (Result g.row.J-Out.Denot g.row.J-Fault.Denot)). g.J.Job.gives c.args.task.now.job.now r.number
          r.answer) _ _ c.new-results.ensures.items (All-nil _));
      weighed = λ fed h. (elim c.if-starved.branch [
        | then-starved w ↦ absurd (true≢false (sym w.if-starved.true ∙ fed))
        | else-starved w ↦ (
            let all = at_ok c.run_both.result both.weighed (sym c.is_err-starved.ensures.value ∙ fed) h in
            let owner = ap (λ (o : LaneOwner). sum_by h (owner_view o).popped) w.owner-is in
            let popped = ap (λ (v : LaneView). sum_by h v.popped) c.requires.0.0 in
            let stolen = ap (λ (v : LaneView). sum_by h v.stolen) c.requires.1.0 in
            let none = ap (weight h) c.new-results.ensures.items in omega arith)
      ]);
    }
