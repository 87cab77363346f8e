use Rattle.std.proofs.Common.{◌≡◌}
use Rattle.option_link.specs.declared.table.Listed.{Listed}
use Rattle.option_link.proofs.LoopLemmas.{UpTo}
use Rattle.option_link.proofs.table.count_with.Given as goal

abbrev pub invariant-loop-index : goal.invariant-loop-index
invariant-loop-index l = UpTo (λ (one : Listed). one.hash64 ≡ l.hash64) l.listed l.index
