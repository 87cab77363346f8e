use Rattle.std.proofs.Common.{◌≡◌, ℕ, Option, Some, sym, subst, MatchOption}
use Rattle.std.specs.List.{slice_get, Contains}
use Rattle.scip_model.specs.Pieces.{texts}
use Rattle.scip_model.proofs.PieceLemmas.{found-path}
use Rattle.scip_model.proofs.pieces.number_of.Goals as goal

pub returns : goal.returns
returns c =
    let paths = c.args.paths.now in
    let path = c.args.path.now in
    subst (λ (o : Option ℕ). MatchOption o (Contains (texts paths) path → ⊥)
    (λ number. slice_get (texts paths) number ≡ Some path)) (sym c.ok.ensures.value)
    (found-path paths path c.binary_search.result c.requires c.binary_search.ensures.bound
    c.binary_search.ensures.position)
