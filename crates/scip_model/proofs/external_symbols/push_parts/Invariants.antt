use Rattle.scip_model.specs.Tables.ExternalLists.{Adds, FromFront, IsOfPart}
use Rattle.scip_model.proofs.external_symbols.push_parts.Given as goal

abbrev pub invariant-loop-part : goal.invariant-loop-part
invariant-loop-part l = Adds
    (FromFront (IsOfPart l.linker l.choices) l.parts l.part-index) l.fn.named.items l.named.items
