use Rattle.option_link.proofs.PathLemmas.{SameUpTo}
use Rattle.option_link.proofs.paths.are_same_steps.Given as goal

abbrev pub invariant-loop-index : goal.invariant-loop-index
invariant-loop-index l = SameUpTo l.steps l.others l.index
