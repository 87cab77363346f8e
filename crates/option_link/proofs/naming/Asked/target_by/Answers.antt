use Rattle.std.proofs.Common.{MatchOption, IfOk, sym, subst}
use Rattle.proto_options.specs.declared.names.OptionRole.{OptionRole}
use Rattle.option_link.specs.declared.place.DeclaredPlace.{DeclaredPlace}
use Rattle.option_link.specs.Contexts.{NamesAs}
use Rattle.option_link.proofs.TableLemmas.{links_within}
use Rattle.option_link.proofs.TargetNameLemmas.{elsewhere_none}
use Rattle.option_link.proofs.naming.Asked.target_by.Goals as goal

pub extension_target-requires-clause-file : goal.extension_target-requires-clause-file
extension_target-requires-clause-file c = links_within c.args.self.files.names.now c.args.self.file c.requires.links

pub packed_target-requires-clause-file : goal.packed_target-requires-clause-file
packed_target-requires-clause-file c = links_within c.args.self.files.names.now c.args.self.file c.requires.links

pub returns-in-Field : goal.returns-in-Field
returns-in-Field c =
    let self = c.args.self in
    subst (λ (as_role : OptionRole). IfOk c.plain_target.result (λ found. MatchOption found
    ((at : DeclaredPlace) → NamesAs self.files.names.now self.files.known.now self.file self.text.now self.option.now
    c.args.number c.args.name.now as_role c.args.context at → ⊥)
    (NamesAs self.files.names.now self.files.known.now self.file self.text.now self.option.now c.args.number
    c.args.name.now as_role c.args.context))) (sym c.in-Field.is) c.plain_target.ensures

pub returns-in-Extension : goal.returns-in-Extension
returns-in-Extension c =
    let self = c.args.self in
    subst (λ (as_role : OptionRole). IfOk c.extension_target.result (λ found. MatchOption found
    ((at : DeclaredPlace) → NamesAs self.files.names.now self.files.known.now self.file self.text.now self.option.now
    c.args.number c.args.name.now as_role c.args.context at → ⊥)
    (NamesAs self.files.names.now self.files.known.now self.file self.text.now self.option.now c.args.number
    c.args.name.now as_role c.args.context))) (sym c.in-Extension.is) c.extension_target.ensures

pub returns-in-Message : goal.returns-in-Message
returns-in-Message c =
    let self = c.args.self in
    subst (λ (as_role : OptionRole). IfOk c.packed_target.result (λ found. MatchOption found
    ((at : DeclaredPlace) → NamesAs self.files.names.now self.files.known.now self.file self.text.now self.option.now
    c.args.number c.args.name.now as_role c.args.context at → ⊥)
    (NamesAs self.files.names.now self.files.known.now self.file self.text.now self.option.now c.args.number
    c.args.name.now as_role c.args.context))) (sym c.in-Message.is) c.packed_target.ensures

pub returns-in-Value : goal.returns-in-Value
returns-in-Value c =
    let self = c.args.self in
    subst (λ (as_role : OptionRole). IfOk c.value_target.result (λ found. MatchOption found
    ((at : DeclaredPlace) → NamesAs self.files.names.now self.files.known.now self.file self.text.now self.option.now
    c.args.number c.args.name.now as_role c.args.context at → ⊥)
    (NamesAs self.files.names.now self.files.known.now self.file self.text.now self.option.now c.args.number
    c.args.name.now as_role c.args.context))) (sym c.in-Value.is) c.value_target.ensures

pub returns-in-Elsewhere : goal.returns-in-Elsewhere
returns-in-Elsewhere c =
    let self = c.args.self in
    subst (λ (as_role : OptionRole). (at : DeclaredPlace) → NamesAs self.files.names.now self.files.known.now self.file
    self.text.now self.option.now c.args.number c.args.name.now as_role c.args.context at → ⊥) (sym c.in-Elsewhere.is)
    (elsewhere_none self.files.names.now self.files.known.now self.file self.text.now self.option.now c.args.number
    c.args.name.now c.args.context)
