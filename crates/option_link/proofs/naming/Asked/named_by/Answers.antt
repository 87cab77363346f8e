use Rattle.option_link.specs.Found.{IsExtensionNamed, IsNamedBy}
use Rattle.option_link.specs.Found.IsNamedBy.{extension}
use Rattle.option_link.specs.declared.place.DeclaredPlace.{DeclaredPlace}
use Rattle.option_link.proofs.ExtensionLemmas.{without_set}
use Rattle.option_link.proofs.LoopLemmas.{found_as}
use Rattle.option_link.proofs.naming.Asked.named_by.Goals as goal

pub returns-in-None : goal.returns-in-None
returns-in-None c =
    let self = c.args.self in
    let files = self.files.names.now in
    let known = self.files.known.now in
    let option = self.option.now in
    let number = c.args.number in
    let context = c.args.context in
    let full = c.args.full_name.now in
    found_as c.extension_named.result
    ((field : DeclaredPlace) → IsExtensionNamed files known self.file option context full field → ⊥)
    ((field : DeclaredPlace) → IsNamedBy files known self.file option number context full field → ⊥)
    (IsExtensionNamed files known self.file option context full)
    (IsNamedBy files known self.file option number context full)
    (λ none field is. none field (without_set files known self.file option number context full field c.in-None.ensures
    is))
    (λ field is. extension is) c.extension_named.ensures
