use Rattle.std.proofs.Common.{length, map, string_bytes}
use Rattle.source_files.proofs.WalkStepPartLemmas.{HaveBut}
use Rattle.source_files.proofs.walk.list_each.Given as goal

-- what the folders before those that are left have
abbrev pub invariant-loop-rest : goal.invariant-loop-rest
invariant-loop-rest g l =
    HaveBut (g.F.ReadFiles.lists l.readers.files.now l.root) (map string_bytes l.folders) (map string_bytes l.rest)
    l.all.items

abbrev pub decreases-loop-rest : goal.decreases-loop-rest
decreases-loop-rest g l = length l.rest
