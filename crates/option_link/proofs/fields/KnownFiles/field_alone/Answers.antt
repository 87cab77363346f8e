use Rattle.std.proofs.Common.{MatchOption, ap, sym, ◌∙◌, subst}
use Rattle.proto_decl.specs.declared.declaration.Declaration.{Declaration}
use Rattle.proto_decl.specs.declared.declaration.DeclarationKind.TheVariants.{Field}
use Rattle.option_link.specs.Tables.{IsOnly}
use Rattle.option_link.specs.declared.place.DeclaredPlace.{DeclaredPlace}
use Rattle.option_link.proofs.FieldLemmas.{alone_by, not_alone_by}
use Rattle.option_link.proofs.LoopLemmas.{fails, some_of}
use Rattle.option_link.proofs.PlaceLemmas.{same_declaration}
use Rattle.option_link.proofs.fields.KnownFiles.field_alone.Goals as goal

pub returns-then-not-is_a : goal.returns-then-not-is_a
returns-then-not-is_a c = λ d stands.
    fails c.is_a.result _ c.is_a.ensures c.if-not-is_a.true
    (ap (λ (x : Declaration). x.kind) (same_declaration c.args.self.names.now c.args.place c.in-Some.declared.now d
    c.in-Some.ensures.stands stands.stands) ∙ stands.is)

pub returns-then-not-is_place : goal.returns-then-not-is_place
returns-then-not-is_place c =
    let files = c.args.self.names.now in
    let place = c.args.place in
    let d = c.in-Some.declared.now in
    let only = subst (λ n. MatchOption c.only_in-only.result
    ((p : DeclaredPlace) → IsOnly files place.file n p → ⊥) (IsOnly files place.file n))
    (c.as_str.ensures.value ∙ c.in_ok-name-in-Some.ensures) c.only_in-only.ensures in
    not_alone_by files place d c.in-Some.ensures.stands Field c.only_in-only.result only
    (fails c.is_place.result _ c.is_place.ensures c.if-not-is_place.true)

pub returns-else-not-is_place : goal.returns-else-not-is_place
returns-else-not-is_place c =
    let files = c.args.self.names.now in
    let place = c.args.place in
    let d = c.in-Some.declared.now in
    let stands = c.in-Some.ensures.stands in
    let only = subst (λ n. MatchOption c.only_in-only.result
    ((p : DeclaredPlace) → IsOnly files place.file n p → ⊥) (IsOnly files place.file n))
    (c.as_str.ensures.value ∙ c.in_ok-name-in-Some.ensures) c.only_in-only.ensures in
    let its = alone_by files place d stands Field (c.is_a.ensures.0 c.if-not-is_a.false)
    (some_of _ _ place (c.is_place.ensures.0 c.if-not-is_place.false) only) in (
      its.0,
      its.1,
      ap (λ (x : Declaration). x.full_name) (same_declaration files place its.0 d its.1.stands stands)
          ∙ sym c.in_ok-name-in-Some.ensures,
    )

pub returns-in-None : goal.returns-in-None
returns-in-None c = λ d stands. c.in-None.ensures.stands d stands.stands
