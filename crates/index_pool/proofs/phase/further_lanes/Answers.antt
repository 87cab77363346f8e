use Rattle.std.proofs.Common.{◌≡◌, ℕ, ◌<◌, [], length, sum_by, ap, ◌∙◌, arith}
use Rattle.std.proofs.lemmas.List.Elements.{All-nil, All-same, All-push}
use Rattle.std.proofs.lemmas.List.{length_push}
use Rattle.std.proofs.lemmas.List.Sums.{sum_by_push}
use Rattle.std.specs.List.{range_with_len}
use Rattle.index_pool.specs.declared.lanes.ends.LaneOwner.{LaneOwner}
use Rattle.index_pool.specs.declared.lanes.ends.LaneThief.{LaneThief}
use Rattle.index_pool.specs.LaneEnds.{owner_view}
use Rattle.index_pool.specs.Tables.PhaseSteps.{FreshLane}
use Rattle.index_pool.proofs.LaneNumbersLemmas.{lanes_weight, lanes_weight_one, lanes_weight_more, lanes_cover}
use Rattle.index_pool.proofs.LaneEndsLemmas.{fresh_owner, fresh_thief}
use Rattle.index_pool.proofs.phase.further_lanes.Goals as goal

-- the weights of the numbers that a lane was given
abbrev given_weight : (ℕ → ℕ) → LaneOwner × LaneThief → ℕ
given_weight h ends = sum_by h (owner_view ends.0).given

pub loop-worker-init : goal.loop-worker-init
loop-worker-init c = record {
  count = (let none = ap length c.new-lanes.ensures.items in omega arith);
  fresh = All-same (FreshLane c.args.inputs) _ [] c.new-lanes.ensures.items (All-nil (FreshLane c.args.inputs));
  weighed = λ h. (
      let none = ap (sum_by (given_weight h)) c.new-lanes.ensures.items in
      let one = lanes_weight_one h c.args.inputs c.args.workers in omega arith);
}

pub loop-worker-preserved : goal.loop-worker-preserved
loop-worker-preserved c =
    let more = c.in_ok-push.ensures.items in
    let new = c.in_ok-lane.ensures in
    let ends = c.in_ok-lane.field-0 in record {
      count = (let a = ap length more in let b = length_push c.loop-worker.lanes.items ends in
          let d = c.loop-worker.invariant.count in omega arith);
      fresh = All-same (FreshLane c.args.inputs) _ _ more
          (All-push (FreshLane c.args.inputs) c.loop-worker.lanes.items ends c.loop-worker.invariant.fresh (
            fresh_owner c.args.inputs c.args.workers c.loop-worker.worker ends.0 new.owner,
            fresh_thief c.args.inputs c.args.workers c.loop-worker.worker ends.1 new.thief new.tries,
            new.deque,
          ));
      weighed = λ h. (
          let a = ap (sum_by (given_weight h)) more in
          let b = sum_by_push (given_weight h) c.loop-worker.lanes.items ends in
          let d = ap (λ v. sum_by h v.given) new.owner in
          let e = lanes_weight_more h c.args.inputs c.args.workers c.loop-worker.worker in
          let f = c.loop-worker.invariant.weighed h in omega arith);
    }

pub returns-clause-whole : goal.returns-clause-whole
returns-clause-whole c = λ h.
    let range = c.count-worker-end.ensures.range in
    let value = c.count-worker-end.ensures.value in
    let some : 0 < c.args.workers = omega arith in
    let all : c.loop-worker.worker ≡ c.args.workers = omega arith in
    let a = c.loop-worker.invariant.weighed h in
    let b : lanes_weight h c.args.inputs c.args.workers c.loop-worker.worker
    ≡ sum_by h (range_with_len 0 c.args.inputs) =
    ap (lanes_weight h c.args.inputs c.args.workers) all ∙ lanes_cover h c.args.inputs c.args.workers some in
    omega arith
