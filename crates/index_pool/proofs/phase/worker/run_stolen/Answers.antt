use Rattle.std.proofs.Common.{◌∙◌, ◌++◌, ◌∷◌, [], sym, ap, sum_by, arith}
use Rattle.std.specs.Prelude.{Result}
use Rattle.std.proofs.lemmas.List.Elements.{All-same}
use Rattle.index_pool.proofs.LaneEndsLemmas.{stole_same as stole_none}
use Rattle.index_pool.specs.declared.lanes.rule.LaneView.{LaneView}
use Rattle.index_pool.specs.declared.phase.worker.Ran.{Ran}
use Rattle.index_pool.specs.Lane.{more_stolen}
use Rattle.index_pool.specs.LaneEnds.{thief_view}
use Rattle.index_pool.specs.Tables.PhaseSteps.{weight}
use Rattle.index_pool.proofs.LaneEndTakenLemmas.{stole_one, given_one, weighs_one}
use Rattle.index_pool.proofs.phase.worker.run_stolen.Goals as goal

pub steals-preserved-in-Got : goal.steals-preserved-in-Got
steals-preserved-in-Got g c =
    let ran : Ran (Result g.row.J-Out.Denot g.row.J-Fault.Denot) = c.run_one-ran.result in
    let one = c.in-Got.ensures.got
    ∙ ap (λ k. more_stolen (thief_view c.steals.thief) (k ∷ [])) (sym c.run_one-ran.ensures.number) in
    let before = c.steals.results.items in
    let items = c.push_reserved.ensures.items ∙ ap (λ l. l ++ ran ∷ []) c.in_ok-reserve.ensures.items in record {
      thief = stole_one c.args.thief.now c.steals.thief c.steal.new.self ran.number c.steals.invariant.thief
          c.in-Got.ensures.same one;
      answers = λ given. given_one before c.push_reserved.new.self.items ran items
          (g.J.Job.gives c.args.task.now.job.now) (c.steals.invariant.answers given) c.run_one-ran.ensures.given;
      weighed = λ h. weighs_one before c.push_reserved.new.self.items ran items h (thief_view c.steals.thief).stolen
          (thief_view c.steal.new.self).stolen
          (sum_by h (thief_view c.args.thief.now).stolen) (weight h c.args.results.now.items)
          (ap (λ (v : LaneView). v.stolen) one) (c.steals.invariant.weighed h);
    }

pub steals-preserved : goal.steals-preserved
steals-preserved g c = record {
  thief = stole_none c.args.thief.now c.steals.thief c.steal.new.self c.steals.invariant.thief c.in-Retry.ensures.same
      c.in-Retry.ensures.none;
  answers = λ given. All-same
      (λ (r : Ran (Result g.row.J-Out.Denot g.row.J-Fault.Denot)). g.J.Job.gives c.args.task.now.job.now r.number
      r.answer) c.reserve.new.self.items c.steals.results.items c.in_ok-reserve.ensures.items
      (c.steals.invariant.answers given);
  weighed = λ h. (
      let a = ap (weight h) c.in_ok-reserve.ensures.items in
      let b = ap (λ (v : LaneView). sum_by h v.stolen) c.in-Retry.ensures.none in
      let d = c.steals.invariant.weighed h in omega arith);
}
