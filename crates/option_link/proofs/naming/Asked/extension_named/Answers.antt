use Rattle.std.proofs.Common.{◌≡◌, subst, sym}
use Rattle.option_link.specs.Contexts.{MayBeExtended}
use Rattle.option_link.specs.Fields.{IsFieldOf}
use Rattle.option_link.specs.Found.{IsExtensionNamed}
use Rattle.option_link.specs.declared.place.DeclaredPlace.{DeclaredPlace}
use Rattle.option_link.proofs.LoopLemmas.{found_as}
use Rattle.option_link.proofs.ExtensionLemmas.{extends_by, extends_not, owned_field}
use Rattle.option_link.proofs.naming.Asked.extension_named.Goals as goal

pub if_extends-requires : goal.if_extends-requires
if_extends-requires c =
    owned_field c.args.self.files.names.now c.args.self.file c.args.full_name.now c.in-Some.field
    c.in-Some.ensures

pub returns-in-Some : goal.returns-in-Some
returns-in-Some c =
    let self = c.args.self in
    let files = self.files.names.now in
    let known = self.files.known.now in
    let option = self.option.now in
    let context = c.args.context in
    let full = c.args.full_name.now in
    let field = c.in-Some.field in
    let owned = c.in-Some.ensures in
    found_as c.if_extends.result ((message : DeclaredPlace) → MayBeExtended files option context message
    → IsFieldOf files known message field → ⊥)
    ((other : DeclaredPlace) → IsExtensionNamed files known self.file option context full other → ⊥)
    (λ one. (one ≡ field) × ((message : DeclaredPlace) × MayBeExtended files option context message
    × IsFieldOf files known message field)) (IsExtensionNamed files known self.file option context full)
    (λ none. extends_not files known self.file option context full field owned none)
    (λ one its. subst (IsExtensionNamed files known self.file option context full) (sym its.0)
    (extends_by files known self.file option context full field owned its.1.0 its.1.1 its.1.2)) c.if_extends.ensures

pub returns-in-None : goal.returns-in-None
returns-in-None c = λ other is. c.in-None.ensures other is.owned
