use Rattle.std.proofs.Common.{◌∙◌, ◌++◌, ◌∷◌, [], sym, ap, sum_by, arith}
use Rattle.std.specs.Prelude.{Result}
use Rattle.index_pool.specs.declared.lanes.rule.LaneView.{LaneView}
use Rattle.index_pool.specs.declared.phase.worker.Ran.{Ran}
use Rattle.index_pool.specs.Lane.{more_popped}
use Rattle.index_pool.specs.LaneEnds.{owner_view}
use Rattle.index_pool.specs.Ticket.{number_of}
use Rattle.index_pool.specs.Tables.PhaseSteps.{weight}
use Rattle.index_pool.proofs.LaneEndTakenLemmas.{popped_one, fewer_left, left_whole, given_one, weighs_one}
use Rattle.index_pool.proofs.phase.worker.run_own.Goals as goal

pub pops-preserved : goal.pops-preserved
pops-preserved g c =
    let ran : Ran (Result g.row.J-Out.Denot g.row.J-Fault.Denot) = c.run_one-ran.result in
    let one = c.in-Some.ensures.some
    ∙ ap (λ k. more_popped (owner_view c.pops.owner) (k ∷ [])) (sym c.run_one-ran.ensures.number) in
    let before = c.pops.results.items in
    let items = c.push_reserved.ensures.items ∙ ap (λ l. l ++ ran ∷ []) c.in_ok-reserve.ensures.items in record {
      owner = popped_one c.args.owner.now c.pops.owner c.pop.new.self ran.number c.pops.invariant.owner
          c.in-Some.ensures.same one;
      answers = λ given. given_one before c.push_reserved.new.self.items ran items
          (g.J.Job.gives c.args.task.now.job.now) (c.pops.invariant.answers given) c.run_one-ran.ensures.given;
      weighed = λ h. weighs_one before c.push_reserved.new.self.items ran items h (owner_view c.pops.owner).popped
          (owner_view c.pop.new.self).popped
          (sum_by h (owner_view c.args.owner.now).popped) (weight h c.args.results.now.items)
          (ap (λ (v : LaneView). v.popped) one) (c.pops.invariant.weighed h);
    }

pub pops-smaller : goal.pops-smaller
pops-smaller g c = fewer_left c.pops.owner c.pop.new.self (number_of c.in-Some.ticket) c.in-Some.ensures.some
    c.in-Some.ensures.one_given.1

pub returns-in_default-clause-whole : goal.returns-in_default-clause-whole
returns-in_default-clause-whole g c =
    left_whole c.args.owner.now c.pops.owner c.pop.new.self c.pops.invariant.owner c.in_default.ensures.none
    c.in_default.ensures.whole

pub returns-in_default-clause-weighed : goal.returns-in_default-clause-weighed
returns-in_default-clause-weighed g c = λ h.
    let a = ap (weight h) c.in_ok-reserve.ensures.items in
    let b = ap (λ (v : LaneView). sum_by h v.popped) c.in_default.ensures.none in
    let d = c.pops.invariant.weighed h in omega arith
