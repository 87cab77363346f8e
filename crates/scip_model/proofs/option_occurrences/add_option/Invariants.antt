use Rattle.scip_model.specs.Makers.{OccursByItsTarget}
use Rattle.scip_model.specs.Tables.Additions.{FromFront}
use Rattle.scip_model.specs.Tables.KnownParts.{AreKnown}
use Rattle.scip_model.specs.Tables.Plans.{AddsPlanned, Around, Grown}
use Rattle.scip_model.proofs.option_occurrences.add_option.Given as goal

abbrev pub invariant-loop-target : goal.invariant-loop-target
invariant-loop-target l = record {
  grown : Grown l.fn.texts l.texts;
  known : AreKnown l.maker l.texts l.plan.known;
  added : (around : Around) → AddsPlanned around l.texts
      (FromFront (OccursByItsTarget l.maker l.options.known l.option) l.target-items l.target-index)
      l.fn.plan.list.items l.plan.list.items;
}
