-- The order of occurrences is a total one, in which those are tied that have one range and one symbol.
use Rattle.std.proofs.Common.{◌≡◌}
use Rattle.std.specs.declared.cmp.Ordering.{Ordering}
use Rattle.std.specs.declared.cmp.Ordering.TheVariants.{Less, Equal, Greater}
use Rattle.std.specs.Cmp.{IsTotalOrder}
use Rattle.std.specs.Ordering.{ordering_then}
use Rattle.std.proofs.lemmas.Cmp.{nat_cmp_total, nat_list_cmp_total, on_total, then_total}
use Rattle.std.proofs.lemmas.Map.Lookups.{exact_unsigned, exact_bytes}
use Rattle.scip_records.specs.declared.records.Occurrence.{Occurrence}
use Rattle.scip_model.specs.OccurrenceOrder.{occurrence_cmp}

pub occurrence_total : IsTotalOrder occurrence_cmp
occurrence_total =
    then_total (on_total (λ (o : Occurrence). o.range.start_line) nat_cmp_total)
    (then_total (on_total (λ (o : Occurrence). o.range.start_column) nat_cmp_total)
    (then_total (on_total (λ (o : Occurrence). o.range.end_line) nat_cmp_total)
    (then_total (on_total (λ (o : Occurrence). o.range.end_column) nat_cmp_total)
    (on_total (λ (o : Occurrence). o.symbol) nat_list_cmp_total))))

pub both_equal : (a b : Ordering) → ordering_then a b ≡ Equal → (a ≡ Equal) × (b ≡ Equal)
both_equal Less b e = absurd cc
both_equal Equal b e = (cc, e)
both_equal Greater b e = absurd cc

pub tied : (x y : Occurrence) → occurrence_cmp x y ≡ Equal → (x.range ≡ y.range) × (x.symbol ≡ y.symbol)
tied x y e =
    let first = both_equal _ _ e in
    let second = both_equal _ _ first.1 in
    let third = both_equal _ _ second.1 in
    let fourth = both_equal _ _ third.1 in
    let start_line = exact_unsigned x.range.start_line y.range.start_line first.0 in
    let start_column = exact_unsigned x.range.start_column y.range.start_column second.0 in
    let end_line = exact_unsigned x.range.end_line y.range.end_line third.0 in
    let end_column = exact_unsigned x.range.end_column y.range.end_column fourth.0 in
    let range : x.range ≡ y.range =
    λ i. record {
      start_line = start_line i;
      start_column = start_column i;
      end_line = end_line i;
      end_column = end_column i;
    } in
    (range, exact_bytes x.symbol y.symbol fourth.1)
