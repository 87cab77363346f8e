use Rattle.std.proofs.Common.{Bool, IfOk, MatchOption, subst}
use Rattle.option_link.specs.Contexts.{options_message}
use Rattle.option_link.specs.Found.{IsFieldIn, IsMemberOf, in_braces}
use Rattle.option_link.specs.declared.contexts.Context.TheVariants as inside
use Rattle.option_link.specs.declared.place.DeclaredPlace.{DeclaredPlace}
use Rattle.option_link.proofs.LoopLemmas.{found_as, some_of, none_of}
use Rattle.option_link.proofs.OwnFieldLemmas.{clear_message, in_options, of_options, none_in_options}
use Rattle.option_link.proofs.naming.Asked.options_field.Goals as goal

pub member-requires : goal.member-requires
member-requires c =
    let self = c.args.self in
    let is = some_of _ _ _ c.in-Some.is c.in_ok-message.ensures in
    clear_message self.files.names.now self.file (options_message self.option.now.element) c.in-Some.message is

pub returns-in-Some : goal.returns-in-Some
returns-in-Some c =
    let self = c.args.self in
    let files = self.files.names.now in
    let known = self.files.known.now in
    let option = self.option.now in
    let number = c.args.number in
    let word = c.args.word.now in
    let message = c.in-Some.message in
    let is = some_of _ _ _ c.in-Some.is c.in_ok-message.ensures in
    let of = subst (λ (braces : Bool). IfOk c.member.result (λ found. MatchOption found
    ((field : DeclaredPlace) → IsMemberOf files known message word braces field → ⊥)
    (IsMemberOf files known message word braces))) c.is_in_braces-in_braces.ensures c.member.ensures in
    found_as c.member.result
    ((field : DeclaredPlace) → IsMemberOf files known message word (in_braces option number) field → ⊥)
    ((field : DeclaredPlace) → IsFieldIn files known self.file option number word inside.Options field → ⊥)
    (IsMemberOf files known message word (in_braces option number))
    (IsFieldIn files known self.file option number word inside.Options)
    (λ none field it. none field (in_options files known self.file option number word message is field it))
    (λ field it. of_options files known self.file option number word message is field it) of

pub returns-in-None : goal.returns-in-None
returns-in-None c =
    let self = c.args.self in
    none_in_options self.files.names.now self.files.known.now self.file self.option.now c.args.number c.args.word.now
    (none_of _ _ c.in-None.is c.in_ok-message.ensures)
