use Rattle.std.proofs.Common.{◌≡◌}
use Rattle.option_link.specs.declared.table.Listed.{Listed}
use Rattle.option_link.specs.Tables.{HasName}
use Rattle.option_link.proofs.LoopLemmas.{UpTo}
use Rattle.option_link.proofs.table.DeclarationTable.is_alone_near.Given as goal

abbrev pub invariant-loop-one : goal.invariant-loop-one
invariant-loop-one l =
    UpTo (λ (one : Listed). one.place.file ≡ l.place.file
    → HasName l.self l.name one.place → one.place ≡ l.place) l.listed l.one-index
