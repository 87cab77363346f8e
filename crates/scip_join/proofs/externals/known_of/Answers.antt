use Rattle.std.proofs.Common.{◌≡◌, ◌++◌, subst, List, ℕ}
use Rattle.std.specs.List.{filter}
use Rattle.scip_join.specs.Tables.{is_among, texts}
use Rattle.scip_join.proofs.ExternalLemmas.{known_in_more}
use Rattle.scip_join.proofs.externals.known_of.Goals as goal

pub loop-piece-preserved : goal.loop-piece-preserved
loop-piece-preserved c =
    let names = texts c.args.names.now in
    let old = texts c.loop-piece.known.items in
    let new = texts c.push_known.new.known.items in
    known_in_more names c.args.pieces.now c.loop-piece.piece-index c.piece-item.result old new
    c.loop-piece-test.true c.piece-item.is c.loop-piece.invariant
    (subst (λ (l : List (List ℕ)). new ≡ old ++ filter (is_among names) l) c.as_slice.ensures
    c.in_ok-push_known.ensures)
