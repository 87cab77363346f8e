use Rattle.std.proofs.Common.{◌≡◌, true, false, ltb, rules, ap, sym, ◌∙◌}
use Rattle.std.specs.List.Sorted.{IsPartitionPoint}
use Rattle.std.proofs.lemmas.List.Sorted.{IsPartitionPoint-from_clause, IsPartitionedBy-ltb}
use Rattle.basics.proofs.FirstLemmas.{contained}
use Rattle.proto_lex.specs.declared.span.Span.{Span}
use Rattle.proto_decl.specs.declared.declaration.Declaration.{Declaration}
use Rattle.option_link.specs.Tables.{name_start}
use Rattle.option_link.proofs.LoopLemmas.{fails}
use Rattle.option_link.proofs.KeyLemmas.{rising, none_there, only_there}
use Rattle.option_link.proofs.searches.index_among.Goals as goal

pub returns-then-not-is_at : goal.returns-then-not-is_at
returns-then-not-is_at c =
    let all = c.args.declarations.now in
    let start = c.args.name.start in
    let before = c.partition_point-before.result in
    let point : IsPartitionPoint (λ (d : Declaration). ltb (name_start d) start ≡ true)
    (λ (d : Declaration). ltb (name_start d) start ≡ false) all before =
    IsPartitionPoint-from_clause (λ (d : Declaration). ltb (name_start d) start) all before
    c.partition_point-before.ensures.partitioned
    (IsPartitionedBy-ltb name_start all start (rising name_start all c.requires)) (λ a r q k. search rules) in
    λ index d at is. fails c.is_at.result _ c.is_at.ensures c.if-not-is_at.true
    (c.name.ensures ∙ (ap (λ (x : Declaration). x.name) (sym (only_there name_start all start before point c.requires
    c.in-Some.one.now c.in-Some.ensures.listed d (contained all index d at) (ap (λ (s : Span). s.start) is))) ∙ is))

pub returns-else-not-is_at : goal.returns-else-not-is_at
returns-else-not-is_at c = (
  c.in-Some.one.now,
  c.in-Some.ensures.listed,
  sym c.name.ensures ∙ c.is_at.ensures.0 c.if-not-is_at.false,
)

pub returns-in-None : goal.returns-in-None
returns-in-None c =
    let all = c.args.declarations.now in
    let start = c.args.name.start in
    let before = c.partition_point-before.result in
    let point : IsPartitionPoint (λ (d : Declaration). ltb (name_start d) start ≡ true)
    (λ (d : Declaration). ltb (name_start d) start ≡ false) all before =
    IsPartitionPoint-from_clause (λ (d : Declaration). ltb (name_start d) start) all before
    c.partition_point-before.ensures.partitioned
    (IsPartitionedBy-ltb name_start all start (rising name_start all c.requires)) (λ a r q k. search rules) in
    λ index d at is. none_there name_start all start before point c.in-None.ensures.listed d (contained all index d at)
    (ap (λ (s : Span). s.start) is)
