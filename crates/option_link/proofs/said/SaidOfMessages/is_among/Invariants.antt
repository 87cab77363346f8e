use Rattle.std.proofs.Common.{◌≡◌}
use Rattle.option_link.specs.declared.table.Listed.{Listed}
use Rattle.option_link.specs.Said.{IsSaidAt, asked_for, saying}
use Rattle.option_link.proofs.LoopLemmas.{UpTo}
use Rattle.option_link.proofs.said.SaidOfMessages.is_among.Given as goal

abbrev pub invariant-loop-one : goal.invariant-loop-one
invariant-loop-one l = UpTo (λ (one : Listed). ((one.place.file ≡ l.file)
    × IsSaidAt l.self one.place (saying l.name (asked_for l.word))) → ⊥) l.listed l.one-index
