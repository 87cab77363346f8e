use Rattle.option_link.specs.declared.place.DeclaredPlace.{DeclaredPlace}
use Rattle.option_link.specs.Lookups.{admits}
use Rattle.option_link.specs.Tables.{IsOnly, IsOwned}
use Rattle.option_link.proofs.LoopLemmas.{option_as}
use Rattle.option_link.proofs.OwnerLemmas.{owned_in, owned_out}
use Rattle.option_link.proofs.table.DeclarationTable.owned_among.Goals as goal

pub returns-in-Some : goal.returns-in-Some
returns-in-Some c =
    let files = c.args.self.now in
    let file = c.args.file in
    let owner = c.in-Some.owner in
    let role = admits c.args.sought in
    let name = c.args.name.now in
    option_as c.only_near.result ((place : DeclaredPlace) → IsOnly files owner name place → ⊥)
    ((place : DeclaredPlace) → IsOwned files file role name place → ⊥) (IsOnly files owner name)
    (IsOwned files file role name)
    (λ none place owned. none place
    (owned_out files file role c.requires.declared name owner c.in-Some.ensures place owned))
    (λ place only. owned_in files file role c.requires.declared name owner c.in-Some.ensures place only)
    c.only_near.ensures

pub returns-in-None : goal.returns-in-None
returns-in-None c = λ place owned. c.in-None.ensures place.file owned.owner
