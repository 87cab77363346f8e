use Rattle.scip_model.specs.Tables.Additions.{Adds, FromFront}
use Rattle.scip_model.specs.Tables.OptionListing.{IsOfTarget}
use Rattle.scip_model.proofs.external_options.push_targets.Given as goal

abbrev pub invariant-loop-target : goal.invariant-loop-target
invariant-loop-target l =
    Adds (FromFront (IsOfTarget l.linker l.choices) l.targets l.target-index) l.fn.named.items l.named.items
