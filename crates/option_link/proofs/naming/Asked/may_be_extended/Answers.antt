use Rattle.std.proofs.Common.{◌≡◌, ◌↔◌, IsTrue, IfOk, sym, subst}
use Rattle.proto_visibility.specs.Files.{IsPresent}
use Rattle.option_link.specs.Contexts.{IsMessageNamed, MayBeExtended, options_message}
use Rattle.option_link.specs.Contexts.MayBeExtended.{options}
use Rattle.option_link.specs.declared.contexts.Context.{Context}
use Rattle.option_link.specs.declared.contexts.Context.TheVariants as inside
use Rattle.option_link.proofs.LoopLemmas.{iff_as, never_so, ok_as}
use Rattle.option_link.proofs.ExtensionLemmas.{options_extended, same_extended, no_message_there, entries_extend_none}
use Rattle.option_link.proofs.ExtensionLemmas.{enum_extends_none, scalar_extends_none, untold_extends_none}
use Rattle.option_link.proofs.ExtensionLemmas.{skipped_extends_none}
use Rattle.option_link.proofs.naming.Asked.may_be_extended.Goals as goal

pub returns-in-Options : goal.returns-in-Options
returns-in-Options c =
    let self = c.args.self in
    let files = self.files.names.now in
    let option = self.option.now in
    let message = c.args.message in
    subst (λ (context : Context). IfOk c.is_options_message.result (λ may. IsTrue may
    ↔ MayBeExtended files option context message)) (sym c.in-Options.is)
    (ok_as c.is_options_message.result
    (λ is. IsTrue is ↔ (IsMessageNamed files (options_message option.element) message × IsPresent files message.file))
    (λ may. IsTrue may ↔ MayBeExtended files option inside.Options message)
    (λ is iff. iff_as is (IsMessageNamed files (options_message option.element) message × IsPresent files message.file)
    (MayBeExtended files option inside.Options message) (λ its. options its.0 its.1)
    (options_extended files option message) iff)
    c.is_options_message.ensures)

pub returns-in-Message : goal.returns-in-Message
returns-in-Message c =
    let self = c.args.self in
    let files = self.files.names.now in
    let option = self.option.now in
    let message = c.args.message in
    let other = c.in-Message.other in
    subst (λ (context : Context). IsTrue c.is_same.result ↔ MayBeExtended files option context message)
    (sym c.in-Message.is)
    (iff_as c.is_same.result (message ≡ other) (MayBeExtended files option (inside.Message other) message)
    (same_extended files option other message) (no_message_there files option other message) c.is_same.ensures)

pub returns-in-Entries : goal.returns-in-Entries
returns-in-Entries c =
    let self = c.args.self in
    never_so _ (subst (λ (context : Context). MayBeExtended self.files.names.now self.option.now context c.args.message
    → ⊥) (sym c.in-Entries.is) (entries_extend_none self.files.names.now self.option.now c.in-Entries.field-0
    c.args.message))

pub returns-in-Enum : goal.returns-in-Enum
returns-in-Enum c =
    let self = c.args.self in
    never_so _ (subst (λ (context : Context). MayBeExtended self.files.names.now self.option.now context c.args.message
    → ⊥) (sym c.in-Enum.is) (enum_extends_none self.files.names.now self.option.now c.in-Enum.field-0 c.args.message))

pub returns-in-Scalar : goal.returns-in-Scalar
returns-in-Scalar c =
    let self = c.args.self in
    never_so _ (subst (λ (context : Context). MayBeExtended self.files.names.now self.option.now context c.args.message
    → ⊥) (sym c.in-Scalar.is) (scalar_extends_none self.files.names.now self.option.now c.args.message))

pub returns-in-Untold : goal.returns-in-Untold
returns-in-Untold c =
    let self = c.args.self in
    never_so _ (subst (λ (context : Context). MayBeExtended self.files.names.now self.option.now context c.args.message
    → ⊥) (sym c.in-Untold.is) (untold_extends_none self.files.names.now self.option.now c.args.message))

pub returns-in-Skipped : goal.returns-in-Skipped
returns-in-Skipped c =
    let self = c.args.self in
    never_so _ (subst (λ (context : Context). MayBeExtended self.files.names.now self.option.now context c.args.message
    → ⊥) (sym c.in-Skipped.is) (skipped_extends_none self.files.names.now self.option.now c.args.message))
