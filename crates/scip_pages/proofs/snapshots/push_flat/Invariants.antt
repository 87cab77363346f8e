use Rattle.std.proofs.Common.{◌≡◌, ◌++◌, map, take}
use Rattle.scip_pages.specs.Snapshot.{flat_byte}
use Rattle.scip_pages.proofs.snapshots.push_flat.Given as goal

-- the bytes so far
abbrev pub invariant-loop-byte : goal.invariant-loop-byte
invariant-loop-byte l = l.text.items ≡ l.fn.text.items ++ map flat_byte (take l.byte-index l.bytes)
