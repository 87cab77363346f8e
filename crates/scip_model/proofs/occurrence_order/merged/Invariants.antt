use Rattle.std.proofs.Common.{◌+◌, length, map}
use Rattle.std.specs.List.Sorted.{IsStrictlySortedBy}
use Rattle.scip_model.specs.OccurrenceOrder.{occurrence_cmp}
use Rattle.scip_model.specs.Tables.Merges.{AreUntied}
use Rattle.scip_model.specs.Tables.Plans.{Around, occurrence_of}
use Rattle.scip_model.proofs.OccurrenceOrderLemmas.{occurrence_total}
use Rattle.scip_model.proofs.MergeApartLemmas.{IsMergingApart}
use Rattle.scip_model.proofs.MergeLemmas.{IsMerging}
use Rattle.scip_model.proofs.occurrence_order.merged.Given as goal

abbrev pub invariant-loop-next : goal.invariant-loop-next
invariant-loop-next l = record {
  untied : (around : Around) → AreUntied occurrence_cmp (map (occurrence_of around l.texts) l.fn.first.items)
      (map (occurrence_of around l.texts) l.fn.second.items)
      → IsMerging occurrence_cmp (map (occurrence_of around l.texts) l.fn.first.items)
      (map (occurrence_of around l.texts) l.fn.second.items) (map (occurrence_of around l.texts) l.both.items)
      (map (occurrence_of around l.texts) l.first_left.items) (map (occurrence_of around l.texts) l.second_left.items);
  apart : (around : Around)
      → IsStrictlySortedBy occurrence_cmp (map (occurrence_of around l.texts) l.fn.first.items)
      → IsStrictlySortedBy occurrence_cmp (map (occurrence_of around l.texts) l.fn.second.items)
      → IsMergingApart occurrence_cmp occurrence_total (map (occurrence_of around l.texts) l.fn.first.items)
      (map (occurrence_of around l.texts) l.fn.second.items) (map (occurrence_of around l.texts) l.both.items)
      (map (occurrence_of around l.texts) l.first_left.items) (map (occurrence_of around l.texts) l.second_left.items);
}

abbrev pub decreases-loop-next : goal.decreases-loop-next
decreases-loop-next l = length l.first_left.items + length l.second_left.items
