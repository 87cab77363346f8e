use Rattle.std.proofs.Common.{List, ℕ, map}
use Rattle.std.specs.Borrow.{Bor}
use Rattle.source_files.specs.SourceLists.{AreSeen}
use Rattle.source_files.proofs.SourceListLemmas.{SoFar}
use Rattle.source_files.proofs.source_list.paths_in.Given as goal

-- what the lines so far name, and that this is seen
abbrev pub invariant-loop-line : goal.invariant-loop-line
invariant-loop-line l = record {
  so_far : SoFar (map (λ (line : Bor (List ℕ)). line.now) l.yielded) l.number l.paths.items;
  seen : AreSeen l.seen l.paths.items;
}
