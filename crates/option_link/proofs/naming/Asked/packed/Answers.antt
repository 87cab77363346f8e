use Rattle.std.proofs.Common.{◌≡◌, ◌∙◌, List, ℕ, MatchOption, map, ap, sym, subst}
use Rattle.std.specs.Prelude.{codes}
use Rattle.std.proofs.lemmas.Slice.Eq.{bytes_eq-Decides}
use Rattle.std.proofs.lemmas.Bool.{false≢true}
use Rattle.proto_decl.specs.Names.{dotted}
use Rattle.proto_decl.specs.declared.declaration.Declaration.{Declaration}
use Rattle.proto_visibility.specs.Knows.{is_message}
use Rattle.option_link.specs.Found.{IsPackedIn}
use Rattle.option_link.specs.Tables.{IsOwned}
use Rattle.option_link.specs.declared.place.DeclaredPlace.{DeclaredPlace}
use Rattle.option_link.proofs.LoopLemmas.{option_as}
use Rattle.option_link.proofs.PlaceLemmas.{same_declaration}
use Rattle.option_link.proofs.WordLemmas.{now}
use Rattle.option_link.proofs.naming.Asked.packed.Goals as goal

pub returns-then-not-is : goal.returns-then-not-is
returns-then-not-is c = λ message x.
    (let files = c.args.self.files.names.now in
    let same = same_declaration files c.args.any x.outer c.in-Some.outer.now x.stands c.in-Some.ensures.stands in
    false≢true (sym c.if-not-is.true ∙ (c.is.ensures ∙ (bytes_eq-Decides c.full_name.result
    (codes "google.protobuf.Any")).1
    (c.full_name.ensures ∙ (ap (λ (d : Declaration). d.full_name) (sym same) ∙ x.called)))))

pub returns-in_ok-name-in-Some : goal.returns-in_ok-name-in-Some
returns-in_ok-name-in-Some c =
    let files = c.args.self.files.names.now in
    let file = c.args.self.file in
    let any = c.args.any in
    let words = map now c.args.words.now in
    let called : c.in-Some.outer.now.full_name ≡ codes "google.protobuf.Any" =
    sym c.full_name.ensures ∙ (bytes_eq-Decides c.full_name.result (codes "google.protobuf.Any")).0
    (sym c.is.ensures ∙ c.if-not-is.false) in
    let owned = subst (λ (n : List ℕ). MatchOption c.owned.result
    ((place : DeclaredPlace) → IsOwned files file is_message n place → ⊥) (IsOwned files file is_message n))
    (c.as_str.ensures.value ∙ c.in_ok-name-in-Some.ensures) c.owned.ensures in
    option_as c.owned.result ((place : DeclaredPlace) → IsOwned files file is_message (dotted words) place → ⊥)
    ((message : DeclaredPlace) → IsPackedIn files file any words message → ⊥) (IsOwned files file is_message
    (dotted words))
    (IsPackedIn files file any words) (λ none message x. none message x.owned)
    (λ message is. record {
      outer = c.in-Some.outer.now;
      stands = c.in-Some.ensures.stands;
      called = called;
      owned = is;
    }) owned

pub returns-in-None : goal.returns-in-None
returns-in-None c = λ message x. c.in-None.ensures.stands x.outer x.stands
