use Rattle.std.proofs.Common.{◌≡◌, List, Some, ℕ, MatchOption, ap, ◌∙◌, subst}
use Rattle.proto_decl.specs.declared.declaration.Declaration.{Declaration}
use Rattle.proto_decl.specs.declared.declaration.DeclarationKind.TheVariants.{Message}
use Rattle.option_link.specs.Places.{StandsAs}
use Rattle.option_link.specs.Tables.{IsOnly}
use Rattle.option_link.specs.declared.place.DeclaredPlace.{DeclaredPlace}
use Rattle.option_link.proofs.LoopLemmas.{fails, option_as, some_of}
use Rattle.option_link.proofs.FieldLemmas.{alone_by, not_alone_by}
use Rattle.option_link.proofs.PlaceLemmas.{same_declaration}
use Rattle.option_link.proofs.fields.KnownFiles.message_alone.Goals as goal

pub returns-then-not-is_a : goal.returns-then-not-is_a
returns-then-not-is_a c = λ d stands.
    fails c.is_a.result _ c.is_a.ensures c.if-not-is_a.true
    (ap (λ (x : Declaration). x.kind) (same_declaration c.args.self.names.now c.args.place c.in-Some.declared.now d
    c.in-Some.ensures.stands stands.stands) ∙ stands.is)

pub returns-in_ok-name-in-Some : goal.returns-in_ok-name-in-Some
returns-in_ok-name-in-Some c =
    let files = c.args.self.names.now in
    let place = c.args.place in
    let d = c.in-Some.declared.now in
    let stands = c.in-Some.ensures.stands in
    let kind = c.is_a.ensures.0 c.if-not-is_a.false in
    let named : c.as_str.result.now ≡ d.full_name =
    c.as_str.ensures ∙ (c.in_ok-name-in-Some.ensures ∙ c.full_name.ensures) in
    let only = subst (λ (n : List ℕ). MatchOption c.only_in-only.result
    ((p : DeclaredPlace) → IsOnly files place.file n p → ⊥) (IsOnly files place.file n)) named
    c.only_in-only.ensures in
    option_as c.if_same.result (c.only_in-only.result ≡ Some place → ⊥)
    ((e : Declaration) → StandsAs files Message place e → ⊥)
    (λ same. (same ≡ place) × (c.only_in-only.result ≡ Some place))
    (λ message. (message ≡ place) × ((e : Declaration) × StandsAs files Message place e))
    (λ none. not_alone_by files place d stands Message c.only_in-only.result only none)
    (λ message its. (
      its.0,
      alone_by files place d stands Message kind
          (some_of _ _ _ its.1 only),
    )) c.if_same.ensures

pub returns-in-None : goal.returns-in-None
returns-in-None c = λ d stands. c.in-None.ensures.stands d stands.stands
