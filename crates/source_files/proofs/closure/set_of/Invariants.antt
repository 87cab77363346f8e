use Rattle.std.proofs.Common.{length, string_bytes}
use Rattle.source_files.specs.Closures.{paths_in}
use Rattle.source_files.proofs.ClosureLemmas.{SameSoFar}
use Rattle.source_files.proofs.closure.set_of.Given as goal

-- the paths so far are known
abbrev pub invariant-loop-rest : goal.invariant-loop-rest
invariant-loop-rest l = SameSoFar string_bytes l.paths l.rest (paths_in l.known)

abbrev pub decreases-loop-rest : goal.decreases-loop-rest
decreases-loop-rest l = length l.rest
