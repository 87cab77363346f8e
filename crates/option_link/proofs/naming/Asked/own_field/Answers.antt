use Rattle.std.proofs.Common.{Bool, IfOk, MatchOption, sym, subst}
use Rattle.option_link.specs.Found.{IsFieldIn, IsMemberOf, in_braces}
use Rattle.option_link.specs.Tables.{IsClear}
use Rattle.option_link.specs.declared.contexts.Context.{Context}
use Rattle.option_link.specs.declared.contexts.Context.TheVariants as inside
use Rattle.option_link.specs.declared.place.DeclaredPlace.{DeclaredPlace}
use Rattle.option_link.proofs.LoopLemmas.{found_as}
use Rattle.option_link.proofs.OwnFieldLemmas.{in_message, of_message, none_in_entries, none_in_enum}
use Rattle.option_link.proofs.OwnFieldLemmas.{none_in_scalar, none_in_untold}
use Rattle.option_link.proofs.OwnFieldLemmas.{none_in_skipped}
use Rattle.option_link.proofs.naming.Asked.own_field.Goals as goal

pub returns-in-Options : goal.returns-in-Options
returns-in-Options c =
    let self = c.args.self in
    subst (λ (context : Context). IfOk c.options_field.result (λ found. MatchOption found
    ((field : DeclaredPlace) → IsFieldIn self.files.names.now self.files.known.now self.file self.option.now
    c.args.number
    c.args.word.now context field → ⊥)
    (IsFieldIn self.files.names.now self.files.known.now self.file self.option.now c.args.number c.args.word.now
    context)))
    (sym c.in-Options.is) c.options_field.ensures

pub member-requires : goal.member-requires
member-requires c = subst (IsClear c.args.self.files.names.now) c.in-Message.is c.requires.clear

pub returns-in-Message : goal.returns-in-Message
returns-in-Message c =
    let self = c.args.self in
    let files = self.files.names.now in
    let known = self.files.known.now in
    let option = self.option.now in
    let number = c.args.number in
    let word = c.args.word.now in
    let message = c.in-Message.message in
    let of = subst (λ (braces : Bool). IfOk c.member.result (λ found. MatchOption found
    ((field : DeclaredPlace) → IsMemberOf files known message word braces field → ⊥)
    (IsMemberOf files known message word braces))) c.is_in_braces-in_braces.ensures c.member.ensures in
    subst (λ (context : Context). IfOk c.member.result (λ found. MatchOption found
    ((field : DeclaredPlace) → IsFieldIn files known self.file option number word context field → ⊥)
    (IsFieldIn files known self.file option number word context))) (sym c.in-Message.is)
    (found_as c.member.result
    ((field : DeclaredPlace) → IsMemberOf files known message word (in_braces option number) field → ⊥)
    ((field : DeclaredPlace) → IsFieldIn files known self.file option number word (inside.Message message) field → ⊥)
    (IsMemberOf files known message word (in_braces option number))
    (IsFieldIn files known self.file option number word (inside.Message message))
    (λ none field is. none field (in_message files known self.file option number word message field is))
    (λ field is. of_message files known self.file option number word message field is) of)

pub returns-in-Entries : goal.returns-in-Entries
returns-in-Entries c =
    let self = c.args.self in
    subst (λ (context : Context). (field : DeclaredPlace) → IsFieldIn self.files.names.now self.files.known.now
    self.file self.option.now c.args.number c.args.word.now context field → ⊥) (sym c.in-Entries.is)
    (none_in_entries self.files.names.now self.files.known.now self.file self.option.now c.args.number c.args.word.now
    c.in-Entries.field-0)

pub returns-in-Enum : goal.returns-in-Enum
returns-in-Enum c =
    let self = c.args.self in
    subst (λ (context : Context). (field : DeclaredPlace) → IsFieldIn self.files.names.now self.files.known.now
    self.file self.option.now c.args.number c.args.word.now context field → ⊥) (sym c.in-Enum.is)
    (none_in_enum self.files.names.now self.files.known.now self.file self.option.now c.args.number c.args.word.now
    c.in-Enum.field-0)

pub returns-in-Scalar : goal.returns-in-Scalar
returns-in-Scalar c =
    let self = c.args.self in
    subst (λ (context : Context). (field : DeclaredPlace) → IsFieldIn self.files.names.now self.files.known.now
    self.file self.option.now c.args.number c.args.word.now context field → ⊥) (sym c.in-Scalar.is)
    (none_in_scalar self.files.names.now self.files.known.now self.file self.option.now c.args.number c.args.word.now)

pub returns-in-Untold : goal.returns-in-Untold
returns-in-Untold c =
    let self = c.args.self in
    subst (λ (context : Context). (field : DeclaredPlace) → IsFieldIn self.files.names.now self.files.known.now
    self.file self.option.now c.args.number c.args.word.now context field → ⊥) (sym c.in-Untold.is)
    (none_in_untold self.files.names.now self.files.known.now self.file self.option.now c.args.number c.args.word.now)

pub returns-in-Skipped : goal.returns-in-Skipped
returns-in-Skipped c =
    let self = c.args.self in
    subst (λ (context : Context). (field : DeclaredPlace) → IsFieldIn self.files.names.now self.files.known.now
    self.file self.option.now c.args.number c.args.word.now context field → ⊥) (sym c.in-Skipped.is)
    (none_in_skipped self.files.names.now self.files.known.now self.file self.option.now c.args.number c.args.word.now)
