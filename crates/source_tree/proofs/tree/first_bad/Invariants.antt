use Rattle.std.proofs.Common.{take}
use Rattle.source_tree.specs.Trees.{HaveGoodPaths}
use Rattle.source_tree.proofs.tree.first_bad.Given as goal

abbrev pub invariant-loop-number : goal.invariant-loop-number
invariant-loop-number l = HaveGoodPaths (take l.number l.files)
