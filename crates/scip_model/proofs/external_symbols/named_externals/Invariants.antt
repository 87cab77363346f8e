use Rattle.std.proofs.Common.{[]}
use Rattle.scip_model.specs.Tables.ExternalLists.{Adds, IsExternal}
use Rattle.scip_model.proofs.external_symbols.named_externals.Given as goal

abbrev pub invariant-loop-source : goal.invariant-loop-source
invariant-loop-source l = Adds (IsExternal l.linker l.choices l.source) [] l.named.items
