use Rattle.option_link.specs.Typed.{AreTypesFound}
use Rattle.option_link.proofs.often.types_of.Given as goal

abbrev pub invariant-loop-number : goal.invariant-loop-number
invariant-loop-number l = AreTypesFound l.files.0.now l.types.items
