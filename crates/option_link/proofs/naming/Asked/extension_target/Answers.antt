use Rattle.std.proofs.Common.{List, ℕ, IfOk, MatchOption, map, subst}
use Rattle.std.specs.String.{string_bytes}
use Rattle.proto_options.specs.declared.names.OptionRole.TheVariants as role
use Rattle.option_link.specs.Contexts.{NamesAs}
use Rattle.option_link.specs.Found.{IsNamedBy}
use Rattle.option_link.specs.declared.place.DeclaredPlace.{DeclaredPlace}
use Rattle.option_link.proofs.LoopLemmas.{found_as, some_of, none_of}
use Rattle.option_link.proofs.ExtensionLemmas.{from_named, lacks_named, to_named}
use Rattle.option_link.proofs.WordLemmas.{now}
use Rattle.option_link.proofs.naming.Asked.extension_target.Goals as goal

pub returns-in-Some : goal.returns-in-Some
returns-in-Some c =
    let self = c.args.self in
    let files = self.files.names.now in
    let known = self.files.known.now in
    let text = self.text.now in
    let option = self.option.now in
    let number = c.args.number in
    let name = c.args.name.now in
    let context = c.args.context in
    let words = map now c.args.words.now in
    let full = string_bytes c.in-Some.full_name in
    let sought = some_of _ _ _ c.in-Some.is c.in_ok-full_name.ensures in
    let named = subst (λ (n : List ℕ). IfOk c.named_by.result (λ found. MatchOption found
    ((field : DeclaredPlace) → IsNamedBy files known self.file option number context n field → ⊥)
    (IsNamedBy files known self.file option number context n))) c.as_str.ensures.value c.named_by.ensures in
    found_as c.named_by.result
    ((field : DeclaredPlace) → IsNamedBy files known self.file option number context full field → ⊥)
    ((at : DeclaredPlace) → NamesAs files known self.file text option number name role.Extension context at → ⊥)
    (IsNamedBy files known self.file option number context full)
    (NamesAs files known self.file text option number name role.Extension context)
    (λ none at names. none at (to_named files known self.file text option number name words c.requires.words full
    context sought at names))
    (λ at is. from_named files known self.file text option number name words c.requires.words full context sought at is)
    named

pub returns-in-None : goal.returns-in-None
returns-in-None c =
    let self = c.args.self in
    lacks_named self.files.names.now self.files.known.now self.file self.text.now self.option.now c.args.number
    c.args.name.now (map now c.args.words.now) c.requires.words c.args.context
    (none_of _ _ c.in-None.is c.in_ok-full_name.ensures)
