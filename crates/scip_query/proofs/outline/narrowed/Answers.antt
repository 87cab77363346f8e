use Rattle.std.proofs.Common.{rules, List, ℕ}
use Rattle.std.specs.Borrow.{Bor}
use Rattle.std.specs.Ordering.{nat_cmp}
use Rattle.std.specs.Cmp.Lexicographic.{slice_cmp}
use Rattle.std.proofs.lemmas.Fn.{always_returns_same}
use Rattle.scip_query.proofs.FrontLemmas.{between, narrowed_is}
use Rattle.scip_query.proofs.outline.narrowed.Goals as goal

pub returns : goal.returns
returns c = λ d begun.
    let from = c.args.from in
    let end = c.args.end in
    let piece = c.piece_of-piece.result.now in
    narrowed_is d c.args.symbol.now from end piece c.args.run.now c.run_of.result.now c.requires
    c.piece_of-piece.ensures
    (c.run_of.ensures (λ (b : Bor (List ℕ)). slice_cmp nat_cmp (between from end b.now) piece)
    (always_returns_same _ _ _ (λ a r f' k. search rules))) begun
