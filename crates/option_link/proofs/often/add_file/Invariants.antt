use Rattle.option_link.specs.Typed.{AreTypesFound}
use Rattle.option_link.proofs.often.add_file.Given as goal

abbrev pub invariant-loop-fact : goal.invariant-loop-fact
invariant-loop-fact l = AreTypesFound l.files.names.now l.types.items
