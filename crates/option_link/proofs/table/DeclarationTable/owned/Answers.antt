use Rattle.std.proofs.Common.{List, ℕ, MatchOption, subst}
use Rattle.option_link.specs.declared.place.DeclaredPlace.{DeclaredPlace}
use Rattle.option_link.specs.Lookups.{admits}
use Rattle.option_link.specs.Tables.{IsOwned}
use Rattle.option_link.proofs.table.DeclarationTable.owned.Goals as goal

pub returns : goal.returns
returns c =
    let files = c.args.self.now in
    let file = c.args.file in
    let role = admits c.args.sought in
    subst (λ (n : List ℕ). MatchOption c.owned_near.result
    ((place : DeclaredPlace) → IsOwned files file role n place → ⊥) (IsOwned files file role n)) c.whole-name.ensures
    c.owned_near.ensures
