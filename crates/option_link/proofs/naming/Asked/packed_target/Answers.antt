use Rattle.std.proofs.Common.{IfOk, MatchOption, map, sym, subst}
use Rattle.proto_options.specs.declared.names.OptionRole.TheVariants as role
use Rattle.option_link.specs.Contexts.{NamesAs}
use Rattle.option_link.specs.Found.{IsPackedIn}
use Rattle.option_link.specs.Tables.{IsClear}
use Rattle.option_link.specs.declared.contexts.Context.{Context}
use Rattle.option_link.specs.declared.contexts.Context.TheVariants as inside
use Rattle.option_link.specs.declared.place.DeclaredPlace.{DeclaredPlace}
use Rattle.option_link.proofs.LoopLemmas.{found_as}
use Rattle.option_link.proofs.TargetNameLemmas.{packed_from, packed_to, packs_none_options, packs_none_entries}
use Rattle.option_link.proofs.TargetNameLemmas.{packs_none_enum, packs_none_scalar, packs_none_untold}
use Rattle.option_link.proofs.TargetNameLemmas.{packs_none_skipped}
use Rattle.option_link.proofs.WordLemmas.{now}
use Rattle.option_link.proofs.naming.Asked.packed_target.Goals as goal

pub returns-in-Message : goal.returns-in-Message
returns-in-Message c =
    let self = c.args.self in
    let files = self.files.names.now in
    let known = self.files.known.now in
    let text = self.text.now in
    let option = self.option.now in
    let name = c.args.name.now in
    let any = c.in-Message.any in
    let words = map now c.args.words.now in
    let clear = subst (IsClear files) c.in-Message.is c.requires.clear in
    subst (λ (context : Context). IfOk c.packed.result (λ found. MatchOption found
    ((at : DeclaredPlace) → NamesAs files known self.file text option c.args.number name role.Message context at → ⊥)
    (NamesAs files known self.file text option c.args.number name role.Message context))) (sym c.in-Message.is)
    (found_as c.packed.result ((message : DeclaredPlace) → IsPackedIn files self.file any words message → ⊥)
    ((at : DeclaredPlace) → NamesAs files known self.file text option c.args.number name role.Message
    (inside.Message any) at → ⊥) (IsPackedIn files self.file any words)
    (NamesAs files known self.file text option c.args.number name role.Message (inside.Message any))
    (λ none at names. none at (packed_to files known self.file text option c.args.number name words c.requires.words any
    at names))
    (λ at is. packed_from files known self.file text option c.args.number name words c.requires.words any clear at is)
    c.packed.ensures)

pub returns-in-Options : goal.returns-in-Options
returns-in-Options c =
    let self = c.args.self in
    subst (λ (context : Context). (at : DeclaredPlace) → NamesAs self.files.names.now self.files.known.now self.file
    self.text.now self.option.now c.args.number c.args.name.now role.Message context at → ⊥) (sym c.in-Options.is)
    (packs_none_options self.files.names.now self.files.known.now self.file self.text.now self.option.now c.args.number
    c.args.name.now)

pub returns-in-Entries : goal.returns-in-Entries
returns-in-Entries c =
    let self = c.args.self in
    subst (λ (context : Context). (at : DeclaredPlace) → NamesAs self.files.names.now self.files.known.now self.file
    self.text.now self.option.now c.args.number c.args.name.now role.Message context at → ⊥) (sym c.in-Entries.is)
    (packs_none_entries self.files.names.now self.files.known.now self.file self.text.now self.option.now c.args.number
    c.args.name.now c.in-Entries.field-0)

pub returns-in-Enum : goal.returns-in-Enum
returns-in-Enum c =
    let self = c.args.self in
    subst (λ (context : Context). (at : DeclaredPlace) → NamesAs self.files.names.now self.files.known.now self.file
    self.text.now self.option.now c.args.number c.args.name.now role.Message context at → ⊥) (sym c.in-Enum.is)
    (packs_none_enum self.files.names.now self.files.known.now self.file self.text.now self.option.now c.args.number
    c.args.name.now c.in-Enum.field-0)

pub returns-in-Scalar : goal.returns-in-Scalar
returns-in-Scalar c =
    let self = c.args.self in
    subst (λ (context : Context). (at : DeclaredPlace) → NamesAs self.files.names.now self.files.known.now self.file
    self.text.now self.option.now c.args.number c.args.name.now role.Message context at → ⊥) (sym c.in-Scalar.is)
    (packs_none_scalar self.files.names.now self.files.known.now self.file self.text.now self.option.now c.args.number
    c.args.name.now)

pub returns-in-Untold : goal.returns-in-Untold
returns-in-Untold c =
    let self = c.args.self in
    subst (λ (context : Context). (at : DeclaredPlace) → NamesAs self.files.names.now self.files.known.now self.file
    self.text.now self.option.now c.args.number c.args.name.now role.Message context at → ⊥) (sym c.in-Untold.is)
    (packs_none_untold self.files.names.now self.files.known.now self.file self.text.now self.option.now c.args.number
    c.args.name.now)

pub returns-in-Skipped : goal.returns-in-Skipped
returns-in-Skipped c =
    let self = c.args.self in
    subst (λ (context : Context). (at : DeclaredPlace) → NamesAs self.files.names.now self.files.known.now self.file
    self.text.now self.option.now c.args.number c.args.name.now role.Message context at → ⊥) (sym c.in-Skipped.is)
    (packs_none_skipped self.files.names.now self.files.known.now self.file self.text.now self.option.now c.args.number
    c.args.name.now)
