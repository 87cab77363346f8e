use Rattle.std.proofs.Common.{◌≡◌, true, false, ltb, rules, ap, sym, ◌∙◌}
use Rattle.std.specs.List.Sorted.{IsPartitionPoint}
use Rattle.std.proofs.lemmas.List.Sorted.{IsPartitionPoint-from_clause, IsPartitionedBy-ltb}
use Rattle.basics.proofs.FirstLemmas.{contained}
use Rattle.proto_lex.specs.declared.span.Span.{Span}
use Rattle.proto_options.specs.declared.fields.FieldFact.{FieldFact}
use Rattle.option_link.specs.Tables.{field_start}
use Rattle.option_link.proofs.LoopLemmas.{fails}
use Rattle.option_link.proofs.KeyLemmas.{rising, none_there, only_there}
use Rattle.option_link.proofs.searches.field_among.Goals as goal

pub returns-then-not-is_at : goal.returns-then-not-is_at
returns-then-not-is_at c =
    let fields = c.args.fields.now in
    let start = c.args.name.start in
    let before = c.partition_point-before.result in
    let point : IsPartitionPoint (λ (f : FieldFact). ltb (field_start f) start ≡ true)
    (λ (f : FieldFact). ltb (field_start f) start ≡ false) fields before =
    IsPartitionPoint-from_clause (λ (f : FieldFact). ltb (field_start f) start) fields before
    c.partition_point-before.ensures.partitioned
    (IsPartitionedBy-ltb field_start fields start (rising field_start fields c.requires)) (λ a r q k. search rules) in
    λ fact there is. fails c.is_at.result _ c.is_at.ensures c.if-not-is_at.true
    (ap (λ (f : FieldFact). f.name) (sym (only_there field_start fields start before point c.requires c.in-Some.one
    (sym c.field_with.ensures ∙ c.in-Some.is) fact there (ap (λ (s : Span). s.start) is))) ∙ is)

pub returns-else-not-is_at : goal.returns-else-not-is_at
returns-else-not-is_at c = (
  contained c.args.fields.now c.partition_point-before.result c.in-Some.one
      (sym c.field_with.ensures ∙ c.in-Some.is),
  c.is_at.ensures.0 c.if-not-is_at.false,
)

pub returns-in-None : goal.returns-in-None
returns-in-None c =
    let fields = c.args.fields.now in
    let start = c.args.name.start in
    let before = c.partition_point-before.result in
    let point : IsPartitionPoint (λ (f : FieldFact). ltb (field_start f) start ≡ true)
    (λ (f : FieldFact). ltb (field_start f) start ≡ false) fields before =
    IsPartitionPoint-from_clause (λ (f : FieldFact). ltb (field_start f) start) fields before
    c.partition_point-before.ensures.partitioned
    (IsPartitionedBy-ltb field_start fields start (rising field_start fields c.requires)) (λ a r q k. search rules) in
    λ fact there is. none_there field_start fields start before point (sym c.field_with.ensures ∙ c.in-None.is) fact
    there (ap (λ (s : Span). s.start) is)
