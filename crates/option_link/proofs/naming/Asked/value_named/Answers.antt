use Rattle.std.proofs.Common.{List, ℕ, ◌∙◌, subst}
use Rattle.proto_decl.specs.Names.{qualified}
use Rattle.option_link.specs.Found.{IsValueIn}
use Rattle.option_link.specs.Tables.{IsOnly}
use Rattle.option_link.specs.declared.place.DeclaredPlace.{DeclaredPlace}
use Rattle.option_link.proofs.LoopLemmas.{fails}
use Rattle.option_link.proofs.OnlyLemmas.{one_only}
use Rattle.option_link.proofs.naming.Asked.value_named.Goals as goal

pub returns-then-not-is_value_in : goal.returns-then-not-is_value_in
returns-then-not-is_value_in c =
    let files = c.args.self.files.names.now in
    let file = c.args.file in
    let name = qualified c.args.scope.now c.args.word.now in
    let only = subst (λ (n : List ℕ). IsOnly files file n c.in-Some.place)
    (c.as_str.ensures.value ∙ c.in_ok-name.ensures) c.in-Some.ensures in
    λ value x. fails c.is_value_in.result _ c.is_value_in.ensures c.if-not-is_value_in.true
    (subst (IsValueIn files c.args.outer.now) (one_only files file name value c.in-Some.place x.only only) x.is)

pub returns-in-Some : goal.returns-in-Some
returns-in-Some c =
    let files = c.args.self.files.names.now in
    let only = subst (λ (n : List ℕ). IsOnly files c.args.file n c.in-Some.place)
    (c.as_str.ensures.value ∙ c.in_ok-name.ensures) c.in-Some.ensures in
    record { only = only; is = c.is_value_in.ensures.0 c.if-not-is_value_in.false }

pub returns : goal.returns
returns c =
    let files = c.args.self.files.names.now in
    let none = subst (λ (n : List ℕ). (place : DeclaredPlace) → IsOnly files c.args.file n place → ⊥)
    (c.as_str.ensures.value ∙ c.in_ok-name.ensures) c.in-None.ensures in
    λ value x. none value x.only
