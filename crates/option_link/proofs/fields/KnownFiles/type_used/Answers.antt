use Rattle.std.proofs.Common.{◌<◌, List, length, sym, subst}
use Rattle.proto_visibility.specs.Files.{File}
use Rattle.option_link.specs.Tables.{IsUseAt}
use Rattle.option_link.specs.Fields.{TypeAt}
use Rattle.option_link.specs.Typed.{IsTypeNamed}
use Rattle.option_link.specs.declared.place.DeclaredPlace.{DeclaredPlace}
use Rattle.proto_decl.specs.declared.declaration.DeclarationKind.{DeclarationKind}
use Rattle.option_link.proofs.LoopLemmas.{found_as}
use Rattle.option_link.proofs.TypeAtLemmas.{type_from, type_to, type_used}
use Rattle.option_link.proofs.fields.KnownFiles.type_used.Goals as goal

pub use_at-requires : goal.use_at-requires
use_at-requires c = subst (λ (files : List File). c.args.file < length files) (sym c.linker.ensures) c.requires

pub returns-in-Some : goal.returns-in-Some
returns-in-Some c =
    let files = c.args.self.names.now in
    let file = c.args.file in
    let start = c.args.start in
    let used = c.in-Some.type_use.now in
    let at = subst (λ (fs : List File). IsUseAt fs file start used) c.linker.ensures c.in-Some.ensures in
    found_as c.type_named.result ((type : DeclaredPlace) → IsTypeNamed files file used type → ⊥)
    ((kind : DeclarationKind) (type : DeclaredPlace) → TypeAt files file start kind type → ⊥)
    (IsTypeNamed files file used) (λ type. (kind : DeclarationKind) × TypeAt files file start kind type)
    (λ none kind type x. none type (type_to files c.linked.ensures.origins c.facts_in_order.ensures.uses
    c.facts_are_filled.ensures.uses file start kind type used x at))
    (λ type named. (named.kind, type_from files file start used type at named)) c.type_named.ensures

pub returns-in-None : goal.returns-in-None
returns-in-None c = λ kind type x.
    c.in-None.ensures x.type_use (subst (λ (fs : List File). IsUseAt fs c.args.file c.args.start x.type_use)
    (sym c.linker.ensures) (type_used c.args.self.names.now c.args.file c.args.start kind type x))
