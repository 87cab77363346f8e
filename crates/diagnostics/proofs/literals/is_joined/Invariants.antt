use Rattle.std.proofs.Common.{◌≡◌, bytes_eq}
use Rattle.diagnostics.specs.Literals.{joined, texts_of}
use Rattle.diagnostics.proofs.literals.is_joined.Given as goal

-- the texts to come are what is due if all are the text
abbrev pub invariant-loop-left : goal.invariant-loop-left
invariant-loop-left l = bytes_eq (texts_of l.left l.rest) l.due ≡ bytes_eq (joined l.bytes) l.text

abbrev pub decreases-loop-left : goal.decreases-loop-left
decreases-loop-left l = l.left
