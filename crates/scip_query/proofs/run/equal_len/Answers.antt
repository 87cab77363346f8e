use Rattle.std.proofs.Common.{◌≡◌, true, false, arith}
use Rattle.std.specs.Ordering.{is_eq}
use Rattle.std.specs.List.Sorted.{IsPartitionPoint}
use Rattle.std.proofs.lemmas.List.Sorted.{IsPartitionPoint-from_clause}
use Rattle.scip_query.proofs.RunLemmas.{parted_take, near_point, length-few}
use Rattle.scip_query.proofs.run.equal_len.Goals as goal

pub returns-then-near-lt-FEW-clause-bound : goal.returns-then-near-lt-FEW-clause-bound
returns-then-near-lt-FEW-clause-bound g c =
    let bound = rw c.few_of.ensures at c.partition_point-near.ensures.bound in
    omega (arith, length-few 8 c.args.run.now, bound)

pub returns-then-near-lt-FEW-clause-parted : goal.returns-then-near-lt-FEW-clause-parted
returns-then-near-lt-FEW-clause-parted g c =
    λ to by parted.
    let run = c.args.run.now in
    let near = c.partition_point-near.result in
    let point : IsPartitionPoint (λ n. is_eq (to n) ≡ true) (λ n. is_eq (to n) ≡ false) c.few_of.result.now near =
    IsPartitionPoint-from_clause (λ n. is_eq (to n)) c.few_of.result.now near c.partition_point-near.ensures.partitioned
    (rw c.few_of.ensures (parted_take (λ n. is_eq (to n)) 8 run parted))
    (λ a r f' k. (k.met.1 to by, λ j. record { 0 = k.met.0 j })) in
    near_point (λ n. is_eq (to n)) 8 run near parted (rw c.few_of.ensures at point) (omega arith)

pub returns-clause-parted : goal.returns-clause-parted
returns-clause-parted g c =
    λ to by parted.
    IsPartitionPoint-from_clause (λ n. is_eq (to n)) c.args.run.now c.partition_point.result
    c.partition_point.ensures.partitioned parted (λ a r f' k. (k.met.1 to by, λ j. record { 0 = k.met.0 j }))
