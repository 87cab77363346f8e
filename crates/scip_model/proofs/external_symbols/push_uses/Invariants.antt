use Rattle.scip_model.specs.Tables.ExternalLists.{Adds, FromFront, IsOfUse}
use Rattle.scip_model.proofs.external_symbols.push_uses.Given as goal

abbrev pub invariant-loop-type_use : goal.invariant-loop-type_use
invariant-loop-type_use l =
    Adds (FromFront (IsOfUse l.linker l.choices l.source) l.uses l.type_use-index) l.fn.named.items l.named.items
