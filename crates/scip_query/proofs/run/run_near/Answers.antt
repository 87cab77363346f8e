use Rattle.std.proofs.Common.{◌≡◌, ◌≤◌, ◌<◌, ◌-◌, ◌∙◌, ap, sym, true, false, take, drop, length, arith}
use Rattle.std.specs.List.{filter}
use Rattle.std.specs.Ordering.{is_lt, is_eq}
use Rattle.std.specs.List.Sorted.{IsPartitionPoint}
use Rattle.std.proofs.lemmas.List.Sorted.{IsPartitionPoint-from_clause}
use Rattle.scip_query.proofs.RunLemmas.{last_parted, near_behind, rises_behind, less_first, equal_first, is_run}
use Rattle.scip_query.proofs.RunLemmas.{parted_take, near_point, most-few}
use Rattle.scip_query.proofs.run.run_near.Goals as goal

pub returns-then-from-eq-FEW : goal.returns-then-from-eq-FEW
returns-then-from-eq-FEW g c =
    λ to by rises.
    let table = c.args.table.now in
    let k = c.min.result in
    let less = c.partition_point-less.result in
    let last : IsPartitionPoint (λ n. is_lt (to n) ≡ true) (λ n. is_lt (to n) ≡ false) c.last_of-last.result.now less =
    IsPartitionPoint-from_clause (λ n. is_lt (to n)) c.last_of-last.result.now less
    c.partition_point-less.ensures.partitioned
    (rw (c.last_of-last.ensures, c.split_at.ensures.front) (last_parted to table rises k _))
    (λ a r f' k. (k.met.1 to by, λ j. record { 0 = k.met.0 j })) in
    let len : length c.last_of-last.result.now ≡ length (drop (length (take k table) - 1) (take k table)) =
    ap length (c.last_of-last.ensures ∙ ap (λ l. drop (length l - 1) l) c.split_at.ensures.front) in
    let all : length (drop (length (take k table) - 1) (take k table)) ≤ less =
    omega (arith, len, c.if-less-last.false) in
    c.run_of-then-from-eq-FEW.ensures to by (rw c.split_at.ensures.back (rises_behind to table rises k))
    ∙ ap (filter (λ n. is_eq (to n))) c.split_at.ensures.back
    ∙ sym (near_behind to table rises k less (omega arith)
    (rw (c.last_of-last.ensures, c.split_at.ensures.front) at last) all)

pub returns : goal.returns
returns g c =
    λ to by rises.
    let table = c.args.table.now in
    let k = c.min.result in
    let back = drop k table in
    let less = c.partition_point-less.result in
    let from = c.partition_point-from.result in
    let len = c.equal_len-len.result in
    let last : IsPartitionPoint (λ n. is_lt (to n) ≡ true) (λ n. is_lt (to n) ≡ false) c.last_of-last.result.now less =
    IsPartitionPoint-from_clause (λ n. is_lt (to n)) c.last_of-last.result.now less
    c.partition_point-less.ensures.partitioned
    (rw (c.last_of-last.ensures, c.split_at.ensures.front) (last_parted to table rises k _))
    (λ a r f' k. (k.met.1 to by, λ j. record { 0 = k.met.0 j })) in
    let few : IsPartitionPoint (λ n. is_lt (to n) ≡ true) (λ n. is_lt (to n) ≡ false) c.few_of.result.now from =
    IsPartitionPoint-from_clause (λ n. is_lt (to n)) c.few_of.result.now from
    c.partition_point-from.ensures.partitioned
    (rw (c.few_of.ensures, c.split_at.ensures.back)
    (parted_take (λ n. is_lt (to n)) 8 back (less_first to back (rises_behind to table rises k))))
    (λ a r f' k. (k.met.1 to by, λ j. record { 0 = k.met.0 j })) in
    let size : length c.last_of-last.result.now ≡ length (drop (length (take k table) - 1) (take k table)) =
    ap length (c.last_of-last.ensures ∙ ap (λ l. drop (length l - 1) l) c.split_at.ensures.front) in
    let all : length (drop (length (take k table) - 1) (take k table)) ≤ less =
    omega (arith, size, c.if-less-last.false) in
    let bound = rw c.few_of.ensures at c.partition_point-from.ensures.bound in
    let inside : from < 8 = omega (arith, bound, most-few 8 c.split_at.result.1.now, c.if-from-eq-FEW.false) in
    let split : IsPartitionPoint (λ n. is_lt (to n) ≡ true) (λ n. is_lt (to n) ≡ false) back from =
    near_point (λ n. is_lt (to n)) 8 back from (less_first to back (rises_behind to table rises k))
    (rw (c.few_of.ensures, c.split_at.ensures.back) at few) inside in
    let run : IsPartitionPoint (λ n. is_eq (to n) ≡ true) (λ n. is_eq (to n) ≡ false) c.split_at-2.result.1.now len =
    c.equal_len-len.ensures.parted to by
    (rw (c.split_at-2.ensures.back, c.split_at.ensures.back)
    (equal_first to back (rises_behind to table rises k) from split.1)) in
    c.split_at-3.ensures.front ∙ ap (take len) (c.split_at-2.ensures.back ∙ ap (drop from) c.split_at.ensures.back)
    ∙ sym (is_run to back (rises_behind to table rises k) from len split
    (rw (c.split_at-2.ensures.back, c.split_at.ensures.back) at run))
    ∙ sym (near_behind to table rises k less (omega arith)
    (rw (c.last_of-last.ensures, c.split_at.ensures.front) at last) all)
