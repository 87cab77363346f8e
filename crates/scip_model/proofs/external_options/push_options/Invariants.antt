use Rattle.scip_model.specs.Tables.Additions.{Adds, FromFront}
use Rattle.scip_model.specs.Tables.OptionListing.{IsOfOption}
use Rattle.scip_model.proofs.external_options.push_options.Given as goal

abbrev pub invariant-loop-option : goal.invariant-loop-option
invariant-loop-option l =
    Adds (FromFront (IsOfOption l.linker l.options.known l.choices l.source l.text) l.option-items l.option-index)
    l.fn.named.items l.named.items
