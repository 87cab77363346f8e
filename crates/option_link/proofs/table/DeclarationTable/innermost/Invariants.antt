use Rattle.option_link.specs.Lookups.{admits}
use Rattle.option_link.proofs.OuterLemmas.{GoesOn, left_in}
use Rattle.option_link.proofs.table.DeclarationTable.innermost.Given as goal

abbrev pub invariant-loop-next : goal.invariant-loop-next
invariant-loop-next l = GoesOn l.self l.file (admits l.sought) l.word l.found l.next l.scope

abbrev pub decreases-loop-next : goal.decreases-loop-next
decreases-loop-next l = left_in l.scope l.next
