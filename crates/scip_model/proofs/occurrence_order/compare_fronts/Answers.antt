use Rattle.std.proofs.Common.{◌∙◌}
use Rattle.std.specs.Ordering.{on}
use Rattle.scip_model.specs.OccurrenceOrder.{occurrence_cmp}
use Rattle.scip_model.specs.Tables.Plans.{Around, occurrence_of}
use Rattle.scip_model.proofs.MergeLemmas.{both_fronts}
use Rattle.scip_model.proofs.occurrence_order.compare_fronts.Goals as goal

pub returns-in-Some-Some : goal.returns-in-Some-Some
returns-in-Some-Some c = λ (around : Around).
    let a = c.in-Some-Some.a.now in
    let b = c.in-Some-Some.b.now in
    let first = c.in-Some-Some.ensures.item in
    let second = c.in-Some-Some.ensures'.item in
    c.compare_occurrences.ensures.each around
    ∙ both_fronts (on (occurrence_of around c.args.texts.now) occurrence_cmp) c.args.first.now.items
    c.args.second.now.items a b first.3.0 first.1 second.3.0 second.1
