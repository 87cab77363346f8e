use Rattle.std.proofs.Common.{length, map, string_bytes}
use Rattle.source_files.proofs.ReadingLemmas.{AreReadFar}
use Rattle.source_files.proofs.reading.read_each.Given as goal

-- what was read so far, and the paths that are left
abbrev pub invariant-loop-rest : goal.invariant-loop-rest
invariant-loop-rest g l =
    AreReadFar (g.F.ReadFiles.lists l.readers.files.now) (g.F.ReadFiles.gives l.readers.files.now) l.readers.leaves_out
    l.root (map string_bytes l.paths) (map string_bytes l.rest) l.below

abbrev pub decreases-loop-rest : goal.decreases-loop-rest
decreases-loop-rest g l = length l.rest
