use Rattle.std.proofs.Common.{◌≡◌, ◌+◌, ◌/◌, ◌≤◌, true, [], length}
use Rattle.crossbeam_deque.specs.Handles.{worker_capacity, worker_flavor, worker_index, worker_view}
use Rattle.index_pool.specs.Lane.{lane_numbers, lane_view}
use Rattle.index_pool.proofs.lanes.filled.Given as goal

abbrev pub invariant-loop-number : goal.invariant-loop-number
invariant-loop-number l = record {
  fifo : worker_flavor l.deque ≡ 0;
  room : l.inputs / l.count + 1 ≤ worker_capacity l.deque;
  index : worker_index l.deque ≡ length (lane_numbers l.number l.count l.worker);
  view : worker_view l.deque ≡ lane_view true true (lane_numbers l.number l.count l.worker) [] [];
}
