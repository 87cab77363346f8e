use Rattle.option_link.proofs.LoopLemmas.{UpTo}
use Rattle.option_link.proofs.FactLemmas.{RiseBeside}
use Rattle.option_link.proofs.facts.fields_are_in_order.Given as goal

abbrev pub invariant-loop-file : goal.invariant-loop-file
invariant-loop-file l = UpTo RiseBeside l.known l.file
