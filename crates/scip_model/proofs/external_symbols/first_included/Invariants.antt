use Rattle.scip_model.specs.Tables.ExternalLists.{NoneIncluded}
use Rattle.scip_model.proofs.external_symbols.first_included.Given as goal

-- none so far
abbrev pub invariant-loop-number : goal.invariant-loop-number
invariant-loop-number l = NoneIncluded l.linker l.number
