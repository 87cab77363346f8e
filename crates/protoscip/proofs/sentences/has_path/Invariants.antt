use Rattle.std.proofs.Common.{◌≡◌, false, take}
use Rattle.diagnostics.specs.Literals.{joined}
use Rattle.protoscip.specs.Explanations.{has_path}
use Rattle.protoscip.proofs.sentences.has_path.Given as goal

-- none of the files before has it
abbrev pub invariant-loop-number : goal.invariant-loop-number
invariant-loop-number l = has_path (joined l.literals) (take l.number l.tree) ≡ false
