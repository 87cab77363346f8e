use Rattle.std.proofs.Common.{◌≡◌}
use Rattle.scip_model.specs.Tables.EntryLists.{package_names_up_to}
use Rattle.scip_model.proofs.entries.package_names.Given as goal

-- those so far
abbrev pub invariant-loop-index : goal.invariant-loop-index
invariant-loop-index l = l.names.items ≡ package_names_up_to l.components l.index
