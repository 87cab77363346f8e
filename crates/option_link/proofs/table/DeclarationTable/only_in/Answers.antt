use Rattle.std.proofs.Common.{List, ℕ, MatchOption, subst}
use Rattle.option_link.specs.declared.place.DeclaredPlace.{DeclaredPlace}
use Rattle.option_link.specs.Tables.{IsOnly}
use Rattle.option_link.proofs.table.DeclarationTable.only_in.Goals as goal

pub returns : goal.returns
returns c =
    subst (λ (n : List ℕ). MatchOption c.only_near.result
    ((place : DeclaredPlace) → IsOnly c.args.self.now c.args.file n place → ⊥) (IsOnly c.args.self.now c.args.file n))
    c.whole-name.ensures c.only_near.ensures
