use Rattle.std.proofs.Common.{◌≡◌, true, false, ltb, rules, ap, sym, ◌∙◌}
use Rattle.std.specs.List.Sorted.{IsPartitionPoint}
use Rattle.std.proofs.lemmas.List.Sorted.{IsPartitionPoint-from_clause, IsPartitionedBy-ltb}
use Rattle.basics.proofs.FirstLemmas.{contained}
use Rattle.proto_decl.specs.declared.uses.Use.{Use}
use Rattle.option_link.specs.Tables.{use_start}
use Rattle.option_link.proofs.KeyLemmas.{rising, none_there, only_there}
use Rattle.option_link.proofs.searches.use_among.Goals as goal

pub returns-then-from-start : goal.returns-then-from-start
returns-then-from-start c =
    let uses = c.args.uses.now in
    let start = c.args.start in
    let before = c.partition_point-before.result in
    let point : IsPartitionPoint (λ (u : Use). ltb (use_start u) start ≡ true)
    (λ (u : Use). ltb (use_start u) start ≡ false) uses before =
    IsPartitionPoint-from_clause (λ (u : Use). ltb (use_start u) start) uses before
    c.partition_point-before.ensures.partitioned
    (IsPartitionedBy-ltb use_start uses start (rising use_start uses c.requires)) (λ a r q k. search rules) in
    λ used there is. c.if-from-start.true (c.start_of-from.ensures
    ∙ (ap use_start (sym (only_there use_start uses start before point c.requires c.in-Some.one.now c.in-Some.ensures
    used there is)) ∙ is))

pub returns-else-from-start : goal.returns-else-from-start
returns-else-from-start c = (
  contained c.args.uses.now c.partition_point-before.result c.in-Some.one.now c.in-Some.ensures,
  sym c.start_of-from.ensures ∙ c.if-from-start.false,
)

pub returns-in-None : goal.returns-in-None
returns-in-None c =
    let uses = c.args.uses.now in
    let start = c.args.start in
    let before = c.partition_point-before.result in
    let point : IsPartitionPoint (λ (u : Use). ltb (use_start u) start ≡ true)
    (λ (u : Use). ltb (use_start u) start ≡ false) uses before =
    IsPartitionPoint-from_clause (λ (u : Use). ltb (use_start u) start) uses before
    c.partition_point-before.ensures.partitioned
    (IsPartitionedBy-ltb use_start uses start (rising use_start uses c.requires)) (λ a r q k. search rules) in
    none_there use_start uses start before point c.in-None.ensures
