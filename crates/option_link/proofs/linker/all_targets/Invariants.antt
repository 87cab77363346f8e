use Rattle.option_link.specs.Found.{AreFound}
use Rattle.option_link.proofs.linker.all_targets.Given as goal

abbrev pub invariant-loop-number : goal.invariant-loop-number
invariant-loop-number l =
    AreFound l.asked.files.names.now l.asked.files.known.now l.asked.file l.asked.text.now l.asked.option.now l.number
    l.found
