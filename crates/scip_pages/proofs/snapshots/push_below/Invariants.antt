use Rattle.std.proofs.Common.{◌≡◌, ◌++◌, take}
use Rattle.scip_pages.specs.Snapshot.{below}
use Rattle.scip_pages.proofs.snapshots.push_below.Given as goal

-- what is below the bytes so far
abbrev pub invariant-loop-byte : goal.invariant-loop-byte
invariant-loop-byte l = l.text.items ≡ l.fn.text.items ++ below l.sign (take l.byte-index l.bytes)
