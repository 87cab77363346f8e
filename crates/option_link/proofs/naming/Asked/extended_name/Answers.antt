use Rattle.std.proofs.Common.{◌≡◌, ◌<◌, List, ℕ, IfOk, MatchOption, length, sym, ◌∙◌, subst}
use Rattle.proto_decl.specs.declared.declaration.Declaration.{Declaration}
use Rattle.option_link.specs.Contexts.{MayBeExtended}
use Rattle.option_link.specs.Found.{IsExtendedName}
use Rattle.option_link.specs.Places.{Stands}
use Rattle.option_link.specs.Tables.{IsClear}
use Rattle.option_link.specs.declared.contexts.Context.{Context}
use Rattle.option_link.specs.declared.contexts.Context.TheVariants as inside
use Rattle.option_link.specs.declared.place.DeclaredPlace.{DeclaredPlace}
use Rattle.option_link.proofs.LoopLemmas.{found_as}
use Rattle.option_link.proofs.ExtensionLemmas.{options_called, message_called, entries_extend_none, enum_extends_none}
use Rattle.option_link.proofs.ExtensionLemmas.{scalar_extends_none, untold_extends_none, options_some}
use Rattle.option_link.proofs.ExtensionLemmas.{skipped_extends_none}
use Rattle.option_link.proofs.naming.Asked.extended_name.Goals as goal

pub returns-in-Options-clause-named : goal.returns-in-Options-clause-named
returns-in-Options-clause-named c =
    let self = c.args.self in
    subst (λ (context : Context). IsExtendedName self.files.names.now self.option.now context c.borrowed.result)
    (sym c.in-Options.is)
    (options_called self.files.names.now self.option.now c.borrowed.result
    (c.borrowed.ensures ∙ c.options_message-name.ensures))

pub returns-in-Options-clause-some : goal.returns-in-Options-clause-some
returns-in-Options-clause-some c =
    subst (λ (n : List ℕ). 0 < length n) (sym (c.borrowed.ensures ∙ c.options_message-name.ensures))
    (options_some c.args.self.option.now.element)

pub message_name-requires : goal.message_name-requires
message_name-requires c = subst (IsClear c.args.self.files.names.now) c.in-Message.is c.requires

pub returns-in-Message-clause-named : goal.returns-in-Message-clause-named
returns-in-Message-clause-named c =
    let self = c.args.self in
    let files = self.files.names.now in
    let option = self.option.now in
    let message = c.in-Message.message in
    subst (λ (context : Context). IfOk c.message_name.result (λ found. MatchOption found
    ((other : DeclaredPlace) → MayBeExtended files option context other → ⊥)
    (IsExtendedName files option context))) (sym c.in-Message.is)
    (found_as c.message_name.result ⊥
    ((other : DeclaredPlace) → MayBeExtended files option (inside.Message message) other → ⊥)
    (λ name. (declaration : Declaration) × Stands files message declaration
    × (declaration.full_name ≡ name))
    (IsExtendedName files option (inside.Message message)) (λ none. absurd none)
    (λ name its. message_called files option message its.0 name its.1 its.2)
    c.message_name.ensures.named)

pub returns-in-Entries-clause-named : goal.returns-in-Entries-clause-named
returns-in-Entries-clause-named c =
    let self = c.args.self in
    subst (λ (context : Context). (message : DeclaredPlace) → MayBeExtended self.files.names.now self.option.now context
    message → ⊥) (sym c.in-Entries.is) (entries_extend_none self.files.names.now self.option.now c.in-Entries.field-0)

pub returns-in-Enum-clause-named : goal.returns-in-Enum-clause-named
returns-in-Enum-clause-named c =
    let self = c.args.self in
    subst (λ (context : Context). (message : DeclaredPlace) → MayBeExtended self.files.names.now self.option.now context
    message → ⊥) (sym c.in-Enum.is) (enum_extends_none self.files.names.now self.option.now c.in-Enum.field-0)

pub returns-in-Scalar-clause-named : goal.returns-in-Scalar-clause-named
returns-in-Scalar-clause-named c =
    let self = c.args.self in
    subst (λ (context : Context). (message : DeclaredPlace) → MayBeExtended self.files.names.now self.option.now context
    message → ⊥) (sym c.in-Scalar.is) (scalar_extends_none self.files.names.now self.option.now)

pub returns-in-Untold-clause-named : goal.returns-in-Untold-clause-named
returns-in-Untold-clause-named c =
    let self = c.args.self in
    subst (λ (context : Context). (message : DeclaredPlace) → MayBeExtended self.files.names.now self.option.now context
    message → ⊥) (sym c.in-Untold.is) (untold_extends_none self.files.names.now self.option.now)

pub returns-in-Skipped-clause-named : goal.returns-in-Skipped-clause-named
returns-in-Skipped-clause-named c =
    let self = c.args.self in
    subst (λ (context : Context). (message : DeclaredPlace) → MayBeExtended self.files.names.now self.option.now context
    message → ⊥) (sym c.in-Skipped.is) (skipped_extends_none self.files.names.now self.option.now)
