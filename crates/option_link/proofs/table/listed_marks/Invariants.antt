use Rattle.option_link.specs.declared.table.Listed.{Listed}
use Rattle.option_link.specs.Marks.{IsMarked}
use Rattle.option_link.proofs.LoopLemmas.{UpTo}
use Rattle.option_link.proofs.table.listed_marks.Given as goal

abbrev pub invariant-loop-one : goal.invariant-loop-one
invariant-loop-one l = UpTo (λ (one : Listed). IsMarked l.marks.items one.hash64) l.listed l.one-index
