use Rattle.source_files.proofs.WalkLemmas.{IsWalk}
use Rattle.source_files.proofs.walk.walk_root.Given as goal

-- what is found from here on completes what is found below the root
abbrev pub invariant-loop : goal.invariant-loop
invariant-loop g l = IsWalk (g.F.ReadFiles.lists l.readers.files.now l.root) l.walk
