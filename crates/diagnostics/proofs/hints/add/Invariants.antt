use Rattle.std.proofs.Common.{length}
use Rattle.diagnostics.specs.Hints.{CouldStand}
use Rattle.diagnostics.proofs.HintLemmas.{SoFar, texts}
use Rattle.diagnostics.proofs.hints.add.Given as goal

abbrev pub invariant-loop-rest : goal.invariant-loop-rest
invariant-loop-rest l =
    SoFar (CouldStand l.place.dialect l.place.front.now) (texts l.candidates) (texts l.fn.found.items) (texts l.rest)
    (texts l.found.items)

abbrev pub decreases-loop-rest : goal.decreases-loop-rest
decreases-loop-rest l = length l.rest
