use Rattle.option_link.proofs.TableLemmas.{ListsUpTo}
use Rattle.option_link.proofs.table.listed_of.Given as goal

abbrev pub invariant-loop-file : goal.invariant-loop-file
invariant-loop-file l = ListsUpTo l.linker l.file l.listed.items
