use Rattle.std.proofs.Common.{◌∙◌, ◌++◌, ◌∷◌, [], ap}
use Rattle.scip_join.specs.declared.piece.Piece.{Piece}
use Rattle.scip_join.proofs.gathered.push_piece.Goals as goal

pub returns-clause-kept : goal.returns-clause-kept
returns-clause-kept c =
    c.in_ok-push.ensures.items ∙ ap (λ (p : Piece). c.args.pieces.now.items ++ p ∷ []) c.in_ok-piece.ensures.kept
