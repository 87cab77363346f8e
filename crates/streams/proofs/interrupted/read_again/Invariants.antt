use Rattle.std.proofs.Common.{◌≡◌, length}
use Rattle.std.specs.Io.KnownBytes.{Keeps}
use Rattle.streams.proofs.interrupted.read_again.Given as goal

-- a read that was interrupted took nothing
abbrev pub invariant-tries : goal.invariant-tries
invariant-tries g l =
    record {
      room : length l.room ≡ length l.initial.room;
      kept : Keeps (g.R.Read.remaining l.initial.source) (g.R.Read.remaining l.source);
    }
