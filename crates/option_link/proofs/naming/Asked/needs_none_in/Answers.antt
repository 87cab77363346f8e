use Rattle.std.proofs.Common.{◌↔◌, true, IsTrue, IfOk, sym, subst}
use Rattle.option_link.specs.Found.{IsWithoutMessage, NeedsNoneIn}
use Rattle.option_link.specs.Found.NeedsNoneIn.{skipped}
use Rattle.option_link.specs.declared.contexts.Context.{Context}
use Rattle.option_link.specs.declared.contexts.Context.TheVariants as inside
use Rattle.option_link.proofs.LoopLemmas.{always_so, never_so, ok_as}
use Rattle.option_link.proofs.NoneInLemmas.{scalar_iff, untold_iff, options_iff, entries_iff, message_iff, enum_none}
use Rattle.option_link.proofs.naming.Asked.needs_none_in.Goals as goal

pub returns-in-Scalar : goal.returns-in-Scalar
returns-in-Scalar c =
    let self = c.args.self in
    let files = self.files.names.now in
    let known = self.files.known.now in
    let file = self.file in
    let text = self.text.now in
    let option = self.option.now in
    let number = c.args.number in
    let name = c.args.name.now in
    subst (λ (context : Context). IsTrue c.is_as.result ↔ NeedsNoneIn files known file text option number name context)
    (sym c.in-Scalar.is)
    (scalar_iff files known file text option number name c.is_as.result c.is_as.ensures)

pub returns-in-Untold : goal.returns-in-Untold
returns-in-Untold c =
    let self = c.args.self in
    let files = self.files.names.now in
    let known = self.files.known.now in
    let file = self.file in
    let text = self.text.now in
    let option = self.option.now in
    let number = c.args.number in
    let name = c.args.name.now in
    subst (λ (context : Context). IsTrue c.is_none_of_extension.result ↔ NeedsNoneIn files known file text option number
    name context) (sym c.in-Untold.is)
    (untold_iff files known file text option number name c.is_none_of_extension.result c.is_none_of_extension.ensures)

pub returns-in-Options : goal.returns-in-Options
returns-in-Options c =
    let self = c.args.self in
    let files = self.files.names.now in
    let known = self.files.known.now in
    let file = self.file in
    let text = self.text.now in
    let option = self.option.now in
    let number = c.args.number in
    let name = c.args.name.now in
    subst (λ (context : Context). IfOk c.is_without_message.result
    (λ is. IsTrue is ↔ NeedsNoneIn files known file text option number name context))
    (sym c.in-Options.is)
    (ok_as c.is_without_message.result (λ is. IsTrue is ↔ IsWithoutMessage files file option name)
    (λ is. IsTrue is ↔ NeedsNoneIn files known file text option number name inside.Options)
    (λ is iff. options_iff files known file text option number name is iff) c.is_without_message.ensures)

pub returns-in-Entries : goal.returns-in-Entries
returns-in-Entries c =
    let self = c.args.self in
    let files = self.files.names.now in
    let known = self.files.known.now in
    let file = self.file in
    let text = self.text.now in
    let option = self.option.now in
    let number = c.args.number in
    let name = c.args.name.now in
    subst (λ (context : Context). IsTrue c.is_entry.result ↔ NeedsNoneIn files known file text option number name
    context) (sym c.in-Entries.is)
    (entries_iff files known file text option number name c.in-Entries.field-0 c.is_entry.result c.is_entry.ensures)

pub returns-in-Message : goal.returns-in-Message
returns-in-Message c =
    let self = c.args.self in
    let files = self.files.names.now in
    let known = self.files.known.now in
    let file = self.file in
    let text = self.text.now in
    let option = self.option.now in
    let number = c.args.number in
    let name = c.args.name.now in
    subst (λ (context : Context). IsTrue c.is_reserved.result ↔ NeedsNoneIn files known file text option number name
    context) (sym c.in-Message.is)
    (message_iff files known file text option number name c.in-Message.message c.is_reserved.result
    c.is_reserved.ensures)

pub returns-in-Skipped : goal.returns-in-Skipped
returns-in-Skipped c =
    let self = c.args.self in
    let files = self.files.names.now in
    let known = self.files.known.now in
    let file = self.file in
    let text = self.text.now in
    let option = self.option.now in
    let number = c.args.number in
    let name = c.args.name.now in
    subst (λ (context : Context). IsTrue true ↔ NeedsNoneIn files known file text option number name context)
    (sym c.in-Skipped.is) (always_so _ skipped)

pub returns-in-Enum : goal.returns-in-Enum
returns-in-Enum c =
    let self = c.args.self in
    let files = self.files.names.now in
    let known = self.files.known.now in
    let file = self.file in
    let text = self.text.now in
    let option = self.option.now in
    let number = c.args.number in
    let name = c.args.name.now in
    never_so _ (subst (λ (context : Context). NeedsNoneIn files known file text option number name context → ⊥)
    (sym c.in-Enum.is)
    (enum_none files known file text option number name c.in-Enum.field-0))
