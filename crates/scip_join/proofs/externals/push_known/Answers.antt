use Rattle.std.proofs.Common.{◌≡◌, ◌++◌, ◌∷◌, [], cond, subst, List, ℕ}
use Rattle.scip_join.specs.Tables.{is_among, texts}
use Rattle.scip_join.proofs.ExternalLemmas.{known_more}
use Rattle.scip_join.proofs.externals.push_known.Goals as goal

pub loop-symbol-preserved : goal.loop-symbol-preserved
loop-symbol-preserved c =
    let names = texts c.args.names.now in
    let old = texts c.loop-symbol.known.items in
    let new = texts c.push_if_known.new.known.items in
    known_more names c.args.symbols.now c.loop-symbol.symbol-index c.symbol-item.result
    (texts c.args.known.now.items) old new c.loop-symbol-test.true c.symbol-item.is c.loop-symbol.invariant
    (subst (λ (s : List ℕ). new ≡ old ++ cond (is_among names s) (s ∷ []) []) c.as_str.ensures
    c.in_ok-push_if_known.ensures)
