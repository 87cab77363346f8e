use Rattle.std.proofs.Common.{List, ℕ, MatchOption, subst}
use Rattle.option_link.specs.declared.place.DeclaredPlace.{DeclaredPlace}
use Rattle.option_link.specs.Lookups.{admits}
use Rattle.option_link.specs.Tables.{IsSought}
use Rattle.option_link.proofs.table.DeclarationTable.first_seen.Goals as goal

pub returns : goal.returns
returns c =
    let files = c.args.self.now in
    let role = admits c.args.sought in
    subst (λ (n : List ℕ). MatchOption c.first_sought.result
    ((place : DeclaredPlace) → IsSought files c.args.file role n place → ⊥) (IsSought files c.args.file role n))
    c.whole-name.ensures c.first_sought.ensures
