use Rattle.std.proofs.Common.{[]}
use Rattle.scip_model.specs.Makers.{IsItsOptionGap, IsItsUncertainName, OccursByItsOption}
use Rattle.scip_model.specs.Tables.Additions.{Adds, FromFront}
use Rattle.scip_model.specs.Tables.KnownParts.{AreKnown}
use Rattle.scip_model.specs.Tables.Plans.{AddsPlanned, Around, Grown}
use Rattle.scip_model.proofs.option_occurrences.option_occurrences.Given as goal

abbrev pub invariant-loop-option : goal.invariant-loop-option
invariant-loop-option l = record {
  grown : Grown l.fn.texts l.texts;
  known : AreKnown l.maker l.texts l.plan.known;
  added : (around : Around) → AddsPlanned around l.texts
      (FromFront (OccursByItsOption l.maker l.options.known) l.its_options l.option-index) [] l.plan.list.items;
  gaps : Adds (FromFront (IsItsOptionGap l.maker l.options.known) l.its_options l.option-index) [] l.told.gaps.items;
  uncertain : Adds (FromFront (IsItsUncertainName l.maker l.options.known) l.its_options l.option-index) []
      l.told.uncertain.items;
}
