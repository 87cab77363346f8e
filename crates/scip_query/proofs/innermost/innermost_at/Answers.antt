use Rattle.std.proofs.Common.{rules, ◌≡◌, ◌∙◌, ap, true, false}
use Rattle.std.specs.List.{slice_get, find}
use Rattle.std.specs.Option.{option_and_then}
use Rattle.std.specs.List.Sorted.{IsPartitionPoint}
use Rattle.std.proofs.lemmas.List.Sorted.{IsPartitionPoint-from_clause}
use Rattle.scip_query.specs.Tables.Searches.{starts_behind, stands_listed}
use Rattle.scip_query.proofs.InnermostLemmas.{behind_partitioned, found_in_table}
use Rattle.scip_query.proofs.innermost.innermost_at.Goals as goal

pub returns : goal.returns
returns c =
    let occurrences = c.args.occurrences.now in
    let p = c.args.position in
    let table = c.args.inner.now in
    let from = c.partition_point-from.result in
    let split : IsPartitionPoint (λ n. starts_behind occurrences p n ≡ true)
    (λ n. starts_behind occurrences p n ≡ false) table from =
    IsPartitionPoint-from_clause (starts_behind occurrences p) table from c.partition_point-from.ensures.partitioned
    (behind_partitioned occurrences p table c.requires.sorted) (λ a r f k. search rules) in
    c.numbered.ensures
    ∙ ap (option_and_then (slice_get occurrences))
    (c.first_standing-number.ensures ∙ ap (find (stands_listed occurrences p)) c.split_at.ensures.back)
    ∙ found_in_table occurrences p table from c.requires split.0
