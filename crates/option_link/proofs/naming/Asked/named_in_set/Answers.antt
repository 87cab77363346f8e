use Rattle.option_link.specs.Found.{IsExtensionNamed, IsItemNamed, IsNamedBy}
use Rattle.option_link.specs.Found.IsNamedBy.{extension, item}
use Rattle.option_link.specs.declared.place.DeclaredPlace.{DeclaredPlace}
use Rattle.option_link.proofs.ExtensionLemmas.{with_field, with_item}
use Rattle.option_link.proofs.LoopLemmas.{fails, found_as}
use Rattle.option_link.proofs.naming.Asked.named_in_set.Goals as goal

pub returns-then-is_field : goal.returns-then-is_field
returns-then-is_field c =
    let self = c.args.self in
    let files = self.files.names.now in
    let known = self.files.known.now in
    let option = self.option.now in
    let number = c.args.number in
    let context = c.args.context in
    let full = c.args.full_name.now in
    found_as c.extension_named.result
    ((field : DeclaredPlace) → IsExtensionNamed files known self.file option context full field → ⊥)
    ((field : DeclaredPlace) → IsNamedBy files known self.file option number context full field → ⊥)
    (IsExtensionNamed files known self.file option context full)
    (IsNamedBy files known self.file option number context full)
    (λ none field is. none field (with_field files known self.file option number context full field
    (c.knows-is_field.ensures.0 c.if-is_field.true) is))
    (λ field is. extension is) c.extension_named.ensures

pub returns : goal.returns
returns c =
    let self = c.args.self in
    let files = self.files.names.now in
    let known = self.files.known.now in
    let option = self.option.now in
    let number = c.args.number in
    let context = c.args.context in
    let full = c.args.full_name.now in
    let set = c.args.set in
    let unknown = fails c.knows-is_field.result _ c.knows-is_field.ensures c.if-is_field.false in
    found_as c.item_named.result
    ((field : DeclaredPlace) → IsItemNamed files known self.file set full field → ⊥)
    ((field : DeclaredPlace) → IsNamedBy files known self.file option number context full field → ⊥)
    (IsItemNamed files known self.file set full) (IsNamedBy files known self.file option number context full)
    (λ none field is. none field (with_item files known self.file option number context full field set c.requires.set
    unknown is))
    (λ field is. item c.requires.set unknown is) c.item_named.ensures
