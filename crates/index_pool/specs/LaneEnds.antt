-- What the two ends of a lane show.
use Rattle.std.specs.Prelude.{ℕ, ◌-◌, Bool}
use Rattle.std.specs.Global.{Global}
use Rattle.atomic_blocks.specs.Lent.{RowsId}
use Rattle.crossbeam_deque.specs.Handles.{view, taken, worker_view, worker_deque, stealer_deque}
use Rattle.index_pool.specs.declared.lanes.rule.LaneView.{LaneView}
use Rattle.index_pool.specs.declared.lanes.ends.LaneOwner.{LaneOwner}
use Rattle.index_pool.specs.declared.lanes.ends.LaneThief.{LaneThief}
use Rattle.index_pool.specs.declared.lanes.stolen.Stolen.{Stolen}
use Rattle.index_pool.specs.declared.lanes.stolen.Stolen.TheVariants.{Got, Empty, Retry}

-- what the owner knows of the lane
abbrev pub owner_view : LaneOwner → LaneView
owner_view o = worker_view o.worker

-- what the thief knows of the lane
abbrev pub thief_view : LaneThief → LaneView
thief_view t = view t.pass

-- which deque it is
abbrev pub owner_deque : LaneOwner → RowsId × Global
owner_deque o = worker_deque o.worker

abbrev pub thief_deque : LaneThief → RowsId × Global
thief_deque t = stealer_deque t.stealer

-- whether the owner's last pop found the queue empty
abbrev pub found_empty : LaneOwner → Bool
found_empty o = o.found_empty

-- how many numbers the thief knows to have left the lane
abbrev pub known_gone : LaneThief → ℕ
known_gone t = taken t.pass

-- how many tries are left to the thief
abbrev pub tries_left : LaneThief → ℕ
tries_left t = t.tries

-- how many tries are left after a steal: 64 after a number, none once the queue was found empty, and one fewer after a
-- steal that asks for a further try
abbrev pub tries_after : Stolen → ℕ → ℕ
tries_after (Got t) tries = 64
tries_after Empty tries = 0
tries_after Retry tries = tries - 1
