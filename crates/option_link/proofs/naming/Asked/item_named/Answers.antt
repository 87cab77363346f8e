use Rattle.option_link.specs.Fields.{IsFirstItem}
use Rattle.option_link.specs.Found.{IsItemNamed}
use Rattle.option_link.specs.declared.place.DeclaredPlace.{DeclaredPlace}
use Rattle.option_link.proofs.ItemLemmas.{owned_in, named_of}
use Rattle.option_link.proofs.LoopLemmas.{found_as}
use Rattle.option_link.proofs.naming.Asked.item_named.Goals as goal

pub first_item-requires : goal.first_item-requires
first_item-requires c = owned_in c.args.self.files.names.now c.args.self.file c.args.full_name.now c.in-Some.message
    c.in-Some.ensures

pub returns-in-Some : goal.returns-in-Some
returns-in-Some c =
    let self = c.args.self in
    let files = self.files.names.now in
    let known = self.files.known.now in
    let set = c.args.set in
    let full = c.args.full_name.now in
    let message = c.in-Some.message in
    found_as c.first_item.result ((field : DeclaredPlace) → IsFirstItem files known set message field → ⊥)
    ((field : DeclaredPlace) → IsItemNamed files known self.file set full field → ⊥)
    (IsFirstItem files known set message) (IsItemNamed files known self.file set full)
    (λ none field x. none field (named_of files known self.file set full message c.in-Some.ensures field x))
    (λ field is. record { type = message; owned = c.in-Some.ensures; is = is }) c.first_item.ensures

pub returns-in-None : goal.returns-in-None
returns-in-None c = λ field x. c.in-None.ensures x.type x.owned
