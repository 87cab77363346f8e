use Rattle.option_link.specs.declared.table.Listed.{Listed}
use Rattle.option_link.specs.Contexts.{IsMessageNamed}
use Rattle.option_link.proofs.LoopLemmas.{Kept}
use Rattle.option_link.proofs.table.DeclarationTable.messages_named.Given as goal

abbrev pub invariant-loop-one : goal.invariant-loop-one
invariant-loop-one l =
    Kept (λ (one : Listed). one.place) (IsMessageNamed l.self l.name) l.listed l.one-index l.messages.items
