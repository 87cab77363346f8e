use Rattle.std.proofs.Common.{◌≡◌, List, ℕ, ap, ◌∙◌}
use Rattle.proto_decl.specs.Names.{qualified}
use Rattle.proto_decl.specs.declared.declaration.Declaration.{Declaration}
use Rattle.option_link.specs.Found.{IsMemberNamed, IsMemberOf}
use Rattle.option_link.specs.declared.place.DeclaredPlace.{DeclaredPlace}
use Rattle.option_link.proofs.LoopLemmas.{option_as}
use Rattle.option_link.proofs.OwnFieldLemmas.{member_from, member_to}
use Rattle.option_link.proofs.PlaceLemmas.{same_declaration}
use Rattle.option_link.proofs.fields.KnownFiles.member_anew.Goals as goal

pub returns-in_ok-name-in-Some : goal.returns-in_ok-name-in-Some
returns-in_ok-name-in-Some c =
    let self = c.args.self in
    let files = self.names.now in
    let known = self.known.now in
    let message = c.args.message in
    let word = c.args.word.now in
    let braces = c.args.in_braces in
    let outer = c.requires.0 in
    let stands = c.requires.1 in
    let same = same_declaration files message c.in-Some.outer.now outer c.in-Some.ensures.stands stands.stands in
    let name = c.as_str-in-Some.result.now in
    let named : name ≡ qualified outer.full_name word =
    c.as_str-in-Some.ensures.value ∙ (c.in_ok-name-in-Some.ensures ∙ ap (λ (s : List ℕ). qualified s word)
    (c.as_str.ensures.value ∙ (c.in_ok-scope-in-Some.ensures ∙ ap (λ (d : Declaration). d.full_name) same))) in
    option_as c.member_named.result
    ((field : DeclaredPlace) → IsMemberNamed files known message.file name braces field → ⊥)
    ((field : DeclaredPlace) → IsMemberOf files known message word braces field → ⊥)
    (IsMemberNamed files known message.file name braces) (IsMemberOf files known message word braces)
    (λ none field is. none field (member_to files known message outer stands word braces name named field is))
    (λ field is. member_from files known message outer stands word braces name named field is) c.member_named.ensures

pub returns-in-None : goal.returns-in-None
returns-in-None c = absurd (c.in-None.ensures.stands c.requires.0 c.requires.1.stands)
