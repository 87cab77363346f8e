use Rattle.std.proofs.Common.{length, map, string_bytes}
use Rattle.source_files.proofs.LookLemmas.{FirstSoFar}
use Rattle.source_files.proofs.looking.first_root.Given as goal

-- the roots so far haven't the file
abbrev pub invariant-loop-rest : goal.invariant-loop-rest
invariant-loop-rest g l =
    FirstSoFar (g.F.ReadFiles.finds l.files) l.path (map string_bytes l.roots) (map string_bytes l.rest) l.number

abbrev pub decreases-loop-rest : goal.decreases-loop-rest
decreases-loop-rest g l = length l.rest
