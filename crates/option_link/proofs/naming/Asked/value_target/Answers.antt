use Rattle.std.proofs.Common.{◌≡◌, ◌∷◌, [], List, ℕ, IfOk, MatchOption, map, sym, subst}
use Rattle.proto_options.specs.declared.names.OptionRole.TheVariants as role
use Rattle.option_link.specs.Contexts.{NamesAs}
use Rattle.option_link.specs.Found.{IsValueOf}
use Rattle.option_link.specs.Tables.{IsClear}
use Rattle.option_link.specs.declared.contexts.Context.{Context}
use Rattle.option_link.specs.declared.contexts.Context.TheVariants as inside
use Rattle.option_link.specs.declared.place.DeclaredPlace.{DeclaredPlace}
use Rattle.option_link.proofs.LoopLemmas.{found_as}
use Rattle.option_link.proofs.TargetNameLemmas.{value_from, value_to, values_none_options, values_none_message}
use Rattle.option_link.proofs.TargetNameLemmas.{values_none_entries, values_none_scalar, values_none_untold}
use Rattle.option_link.proofs.TargetNameLemmas.{values_none_skipped}
use Rattle.option_link.proofs.WordLemmas.{now}
use Rattle.option_link.proofs.naming.Asked.value_target.Goals as goal

pub returns-in-Enum : goal.returns-in-Enum
returns-in-Enum c =
    let self = c.args.self in
    let files = self.files.names.now in
    let known = self.files.known.now in
    let text = self.text.now in
    let option = self.option.now in
    let name = c.args.name.now in
    let type = c.in-Enum.type_place in
    let words = map now c.args.words.now in
    let clear = subst (IsClear files) c.in-Enum.is c.requires.clear in
    subst (λ (context : Context). IfOk c.value_by.result (λ found. MatchOption found
    ((at : DeclaredPlace) → NamesAs files known self.file text option c.args.number name role.Value context at → ⊥)
    (NamesAs files known self.file text option c.args.number name role.Value context))) (sym c.in-Enum.is)
    (found_as c.value_by.result ((value : DeclaredPlace) (word : List ℕ) → words ≡ word ∷ []
    → IsValueOf files type word value → ⊥)
    ((at : DeclaredPlace) → NamesAs files known self.file text option c.args.number name role.Value
    (inside.Enum type) at
    → ⊥) (λ value. (word : List ℕ) × (words ≡ word ∷ []) × IsValueOf files type word value)
    (NamesAs files known self.file text option c.args.number name role.Value (inside.Enum type))
    (λ none at names. (let its = value_to files known self.file text option c.args.number name words c.requires.words
    type at names in none at its.0 its.1 its.2))
    (λ at is. value_from files known self.file text option c.args.number name words c.requires.words type clear at is)
    c.value_by.ensures)

pub returns-in-Options : goal.returns-in-Options
returns-in-Options c =
    let self = c.args.self in
    subst (λ (context : Context). (at : DeclaredPlace) → NamesAs self.files.names.now self.files.known.now self.file
    self.text.now self.option.now c.args.number c.args.name.now role.Value context at → ⊥) (sym c.in-Options.is)
    (values_none_options self.files.names.now self.files.known.now self.file self.text.now self.option.now c.args.number
    c.args.name.now)

pub returns-in-Message : goal.returns-in-Message
returns-in-Message c =
    let self = c.args.self in
    subst (λ (context : Context). (at : DeclaredPlace) → NamesAs self.files.names.now self.files.known.now self.file
    self.text.now self.option.now c.args.number c.args.name.now role.Value context at → ⊥) (sym c.in-Message.is)
    (values_none_message self.files.names.now self.files.known.now self.file self.text.now self.option.now c.args.number
    c.args.name.now c.in-Message.field-0)

pub returns-in-Entries : goal.returns-in-Entries
returns-in-Entries c =
    let self = c.args.self in
    subst (λ (context : Context). (at : DeclaredPlace) → NamesAs self.files.names.now self.files.known.now self.file
    self.text.now self.option.now c.args.number c.args.name.now role.Value context at → ⊥) (sym c.in-Entries.is)
    (values_none_entries self.files.names.now self.files.known.now self.file self.text.now self.option.now c.args.number
    c.args.name.now c.in-Entries.field-0)

pub returns-in-Scalar : goal.returns-in-Scalar
returns-in-Scalar c =
    let self = c.args.self in
    subst (λ (context : Context). (at : DeclaredPlace) → NamesAs self.files.names.now self.files.known.now self.file
    self.text.now self.option.now c.args.number c.args.name.now role.Value context at → ⊥) (sym c.in-Scalar.is)
    (values_none_scalar self.files.names.now self.files.known.now self.file self.text.now self.option.now c.args.number
    c.args.name.now)

pub returns-in-Untold : goal.returns-in-Untold
returns-in-Untold c =
    let self = c.args.self in
    subst (λ (context : Context). (at : DeclaredPlace) → NamesAs self.files.names.now self.files.known.now self.file
    self.text.now self.option.now c.args.number c.args.name.now role.Value context at → ⊥) (sym c.in-Untold.is)
    (values_none_untold self.files.names.now self.files.known.now self.file self.text.now self.option.now c.args.number
    c.args.name.now)

pub returns-in-Skipped : goal.returns-in-Skipped
returns-in-Skipped c =
    let self = c.args.self in
    subst (λ (context : Context). (at : DeclaredPlace) → NamesAs self.files.names.now self.files.known.now self.file
    self.text.now self.option.now c.args.number c.args.name.now role.Value context at → ⊥) (sym c.in-Skipped.is)
    (values_none_skipped self.files.names.now self.files.known.now self.file self.text.now self.option.now c.args.number
    c.args.name.now)
