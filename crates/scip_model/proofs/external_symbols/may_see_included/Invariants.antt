use Rattle.scip_model.specs.Tables.ExternalLists.{NoneSeen}
use Rattle.scip_model.proofs.external_symbols.may_see_included.Given as goal

-- none so far
abbrev pub invariant-loop-number : goal.invariant-loop-number
invariant-loop-number l = NoneSeen l.linker l.source l.number
