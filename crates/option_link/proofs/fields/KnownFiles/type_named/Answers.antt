use Rattle.std.proofs.Common.{◌≡◌, ◌<◌, List, length, sym, subst, IfErr}
use Rattle.proto_visibility.specs.Files.{File}
use Rattle.proto_link.specs.Targets.{IsTarget, MayRefuseUse}
use Rattle.option_link.specs.Lookups.{admits}
use Rattle.option_link.specs.Tables.{IsOwned}
use Rattle.option_link.specs.Typed.{IsTypeNamed}
use Rattle.option_link.specs.declared.place.DeclaredPlace.{DeclaredPlace}
use Rattle.option_link.proofs.LoopLemmas.{option_as}
use Rattle.option_link.proofs.TypeAtLemmas.{answered, unanswered, type_owned, type_unowned}
use Rattle.option_link.proofs.fields.KnownFiles.type_named.Goals as goal

pub resolve-answer-requires : goal.resolve-answer-requires
resolve-answer-requires c = subst (λ (files : List File). c.args.file < length files) (sym c.linker.ensures) c.requires

pub returns-in-Some : goal.returns-in-Some
returns-in-Some c =
    let files = c.args.self.names.now in
    let file = c.args.file in
    let used = c.args.type_use.now in
    let target = c.in-Some.target in
    let is : IsTarget files file used target =
    subst (λ (fs : List File). IsTarget fs file used target) c.linker.ensures
    (answered c.linker.result.now file used c.resolve-answer.result c.in_ok-target.field-0 target
    c.in_ok-target.ensures c.in-Some.is c.resolve-answer.ensures.target) in
    let role = admits c.sought_by-sought.result in
    let named : c.as_str.result.now ≡ target.name = c.as_str.ensures in
    option_as c.owned.result ((place : DeclaredPlace) → IsOwned files file role c.as_str.result.now place → ⊥)
    ((type : DeclaredPlace) → IsTypeNamed files file used type → ⊥) (IsOwned files file role c.as_str.result.now)
    (IsTypeNamed files file used)
    (λ none type x. none type (type_unowned files file used target is role c.sought_by-sought.ensures.role
    c.as_str.result.now named type x))
    (λ type owned. type_owned files file used target is role c.sought_by-sought.ensures.role
    c.sought_by-sought.ensures.declared c.as_str.result.now named type owned) c.owned.ensures

pub returns-in-None : goal.returns-in-None
returns-in-None c =
    let files = c.args.self.names.now in
    let file = c.args.file in
    let used = c.args.type_use.now in
    λ type x. unanswered files file used c.resolve-answer.result c.in_ok-target.field-0 c.in_ok-target.ensures
    c.in-None.is (subst (λ (fs : List File). IfErr c.resolve-answer.result (MayRefuseUse fs file used))
    c.linker.ensures c.resolve-answer.ensures.refused) x.name type.file x.names
