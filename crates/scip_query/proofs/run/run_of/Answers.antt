use Rattle.std.proofs.Common.{◌≡◌, ◌∙◌, ap, sym, true, false, take}
use Rattle.std.specs.Ordering.{is_lt, is_eq}
use Rattle.std.specs.List.Sorted.{IsPartitionPoint}
use Rattle.std.proofs.lemmas.List.Sorted.{IsPartitionPoint-from_clause}
use Rattle.scip_query.proofs.RunLemmas.{less_first, equal_first, is_run}
use Rattle.scip_query.proofs.run.run_of.Goals as goal

pub returns : goal.returns
returns g c =
    λ to by rises.
    let table = c.args.table.now in
    let from = c.partition_point-from.result in
    let len = c.equal_len-len.result in
    let split : IsPartitionPoint (λ n. is_lt (to n) ≡ true) (λ n. is_lt (to n) ≡ false) table from =
    IsPartitionPoint-from_clause (λ n. is_lt (to n)) table from c.partition_point-from.ensures.partitioned
    (less_first to table rises) (λ a r f' k. (k.met.1 to by, λ j. record { 0 = k.met.0 j })) in
    let run : IsPartitionPoint (λ n. is_eq (to n) ≡ true) (λ n. is_eq (to n) ≡ false) c.split_at.result.1.now len =
    c.equal_len-len.ensures.parted to by (rw c.split_at.ensures.back (equal_first to table rises from split.1)) in
    c.split_at-2.ensures.front ∙ ap (take len) c.split_at.ensures.back
    ∙ sym (is_run to table rises from len split (rw c.split_at.ensures.back at run))
