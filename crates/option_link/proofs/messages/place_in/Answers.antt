use Rattle.std.proofs.Common.{◌≡◌, true, false, ltb, rules, sym, ◌∙◌}
use Rattle.std.specs.List.Sorted.{IsPartitionPoint}
use Rattle.std.proofs.lemmas.List.Sorted.{IsPartitionPoint-from_clause, IsPartitionedBy-ltb}
use Rattle.basics.proofs.FirstLemmas.{contained}
use Rattle.option_link.specs.declared.place.DeclaredPlace.{DeclaredPlace}
use Rattle.option_link.proofs.KeyLemmas.{none_there, none_with}
use Rattle.option_link.proofs.messages.place_in.Goals as goal

pub returns-then-one-file : goal.returns-then-one-file
returns-then-one-file c =
    let places = c.args.places.now in
    let file = c.args.file in
    let before = c.partition_point-before.result in
    let point : IsPartitionPoint (λ (p : DeclaredPlace). ltb p.file file ≡ true)
    (λ (p : DeclaredPlace). ltb p.file file ≡ false) places before =
    IsPartitionPoint-from_clause (λ (p : DeclaredPlace). ltb p.file file) places before
    c.partition_point-before.ensures.partitioned
    (IsPartitionedBy-ltb (λ (p : DeclaredPlace). p.file) places file c.requires) (λ a r q k. search rules) in
    none_with (λ (p : DeclaredPlace). p.file) places file before point c.requires c.in-Some.one
    (sym c.place_with.ensures ∙ c.in-Some.is) c.if-one-file.true

pub returns-else-one-file : goal.returns-else-one-file
returns-else-one-file c = (
  contained c.args.places.now c.partition_point-before.result c.in-Some.one
      (sym c.place_with.ensures ∙ c.in-Some.is),
  c.if-one-file.false,
)

pub returns-in-None : goal.returns-in-None
returns-in-None c =
    let places = c.args.places.now in
    let file = c.args.file in
    let before = c.partition_point-before.result in
    let point : IsPartitionPoint (λ (p : DeclaredPlace). ltb p.file file ≡ true)
    (λ (p : DeclaredPlace). ltb p.file file ≡ false) places before =
    IsPartitionPoint-from_clause (λ (p : DeclaredPlace). ltb p.file file) places before
    c.partition_point-before.ensures.partitioned
    (IsPartitionedBy-ltb (λ (p : DeclaredPlace). p.file) places file c.requires) (λ a r q k. search rules) in
    none_there (λ (p : DeclaredPlace). p.file) places file before point (sym c.place_with.ensures ∙ c.in-None.is)
