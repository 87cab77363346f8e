use Rattle.std.proofs.Common.{◌≡◌, ◌≤◌, length, take, drop, ◌-◌}
use Rattle.streams.specs.Writers.{writing, IsWritten}
use Rattle.streams.proofs.whole_writes.write_all.Given as goal

-- what is left is a suffix of the bytes, and all before it went out with no failure
abbrev pub invariant-writes : goal.invariant-writes
invariant-writes g l =
    let sent = length l.bytes - length l.rest in
    record {
      fits : length l.rest ≤ length l.bytes;
      suffix : l.rest ≡ drop sent l.bytes;
      sent : IsWritten (writing g.W.Sink l.initial.sink l.sink) (take sent l.bytes);
    }

abbrev pub decreases-writes : goal.decreases-writes
decreases-writes g l = length l.rest
