use Rattle.std.proofs.Common.{take, false}
use Rattle.std.specs.Prelude.{All}
use Rattle.source_files.specs.Places.{IsSaid}
use Rattle.source_files.proofs.out_source.is_read_below.Given as goal

-- none of the files so far is said to be the one there
abbrev pub invariant-loop-number : goal.invariant-loop-number
invariant-loop-number g l =
    All (IsSaid (g.P.OutPlace.same l.place) l.root false) (take l.number l.tree)
