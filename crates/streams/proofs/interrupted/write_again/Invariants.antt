use Rattle.std.specs.Io.KnownBytes.{Keeps}
use Rattle.streams.proofs.interrupted.write_again.Given as goal

-- a write that was interrupted appended nothing
abbrev pub invariant-tries : goal.invariant-tries
invariant-tries g l = Keeps (g.W.Write.contents l.initial.out) (g.W.Write.contents l.out)
