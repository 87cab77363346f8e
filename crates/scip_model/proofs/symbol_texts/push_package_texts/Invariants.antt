use Rattle.std.proofs.Common.{◌≡◌, ◌++◌}
use Rattle.scip_model.specs.Tables.Plans.{package_texts_up_to}
use Rattle.scip_model.proofs.symbol_texts.push_package_texts.Given as goal

-- those so far
abbrev pub invariant-loop-index : goal.invariant-loop-index
invariant-loop-index l = l.texts.items ≡ l.fn.texts.items ++ package_texts_up_to l.id l.facts l.index
