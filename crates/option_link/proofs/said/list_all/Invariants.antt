use Rattle.option_link.proofs.SaidLemmas.{SaidUpTo}
use Rattle.option_link.proofs.said.list_all.Given as goal

abbrev pub invariant-loop-file : goal.invariant-loop-file
invariant-loop-file l = SaidUpTo l.known l.file l.listed.items
