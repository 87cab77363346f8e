-- The order of a document's occurrences.
use Rattle.std.specs.declared.cmp.Ordering.{Ordering}
use Rattle.std.specs.Ordering.{nat_cmp, on, then_cmp}
use Rattle.std.specs.Cmp.Lexicographic.{slice_cmp}
use Rattle.scip_records.specs.declared.records.Occurrence.{Occurrence}

-- by start, then end, then symbol
abbrev pub occurrence_cmp : Occurrence → Occurrence → Ordering
occurrence_cmp =
    then_cmp (on (λ (o : Occurrence). o.range.start_line) nat_cmp)
    (then_cmp (on (λ (o : Occurrence). o.range.start_column) nat_cmp)
    (then_cmp (on (λ (o : Occurrence). o.range.end_line) nat_cmp)
    (then_cmp (on (λ (o : Occurrence). o.range.end_column) nat_cmp)
    (on (λ (o : Occurrence). o.symbol) (slice_cmp nat_cmp)))))
