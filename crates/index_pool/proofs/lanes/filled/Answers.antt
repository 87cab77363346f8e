use Rattle.std.proofs.Common.{◌+◌, ◌/◌, ◌<◌, ◌≤◌, true, [], ◌∷◌, length, sym, ap, ◌∙◌, arith}
use Rattle.crossbeam_deque.specs.Handles.{worker_capacity}
use Rattle.index_pool.specs.Lane.{lane_numbers, lane_view, more_given}
use Rattle.index_pool.proofs.LaneLemmas.{begins}
use Rattle.index_pool.proofs.LaneNumbersLemmas.{lane_none, lane_more_own, lane_more_other, lane_has_room}
use Rattle.std.proofs.lemmas.List.{length_push}
use Rattle.index_pool.proofs.lanes.filled.Goals as goal
use Rattle.index_pool.proofs.lanes.filled.Goals.{then-number-count, else-number-count}

pub fifo_as-requires : goal.fifo_as-requires
fifo_as-requires c = begins

pub loop-number-init : goal.loop-number-init
loop-number-init c = let e = c.in_ok-deque.ensures in let none = lane_none c.count-count.result c.args.worker in
    record {
      fifo = e.1;
      room = e.0.1;
      index = e.3 ∙ ap length (sym none);
      view = e.4 ∙ ap (λ g. lane_view true true g [] []) (sym none);
    }

pub give-requires-clause-room : goal.give-requires-clause-room
give-requires-clause-room c =
    let within : c.args.worker < c.count-count.result = omega (arith, c.requires.1) in
    let room = lane_has_room c.count-count.result c.args.worker c.args.inputs c.loop-number.number
    c.loop-number-test.true c.if-number-count.true within in
    let a = c.loop-number.invariant.index in let b = c.loop-number.invariant.room in omega arith

pub loop-number-preserved : goal.loop-number-preserved
loop-number-preserved c =
    let before = c.loop-number.invariant in
    let count = c.count-count.result in
    let n = c.loop-number.number in
    elim c.if-number-count.branch [
      | then-number-count w ↦ (
          let same = w.give.ensures.same in
          let more = lane_more_own count c.args.worker n w.if-number-count.true in
          let wide : c.args.inputs / count + 1 ≤ worker_capacity w.give.new.deque =
          (let a = same.0.3 in let b = before.room in omega arith) in
          rw w.deque-is record {
            fifo = same.0.1 ∙ before.fifo;
            room = wide;
            index = same.1 ∙ (ap (λ i. i + 1) before.index
                ∙ (sym (length_push (lane_numbers n count c.args.worker) n) ∙ ap length (sym more)));
            view = w.give.ensures.view
                ∙ (ap (λ v. more_given v (n ∷ [])) before.view ∙ ap (λ g. lane_view true true g [] []) (sym more));
          })
      | else-number-count w ↦ (
          let same = lane_more_other count c.args.worker n w.if-number-count.false in
          rw w.deque-is record {
            fifo = before.fifo;
            room = before.room;
            index = before.index ∙ ap length (sym same);
            view = before.view ∙ ap (λ g. lane_view true true g [] []) (sym same);
          })
    ]
