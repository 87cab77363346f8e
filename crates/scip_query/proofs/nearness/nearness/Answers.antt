use Rattle.std.proofs.Common.{◌∙◌, arith, sym}
use Rattle.scip_query.specs.Nearest.{is_root}
use Rattle.scip_query.proofs.NearestLemmas.{at_it, below_it}
use Rattle.scip_query.proofs.nearness.nearness.Goals as goal

pub loop-count-preserved : goal.loop-count-preserved
loop-count-preserved c =
    let isnt = sym c.is_root.ensures ∙ c.if-not-is_root.true in
    record {
      left = below_it (is_root c.args.asked.now c.args.path.now c.args.symbol.now) c.loop-count.count
          (omega (arith, c.loop-count-test.true)) isnt
          ∙ c.loop-count.invariant.left;
      within = omega (arith, c.loop-count.invariant.within);
    }

pub returns-else-not-is_root : goal.returns-else-not-is_root
returns-else-not-is_root c =
    let is = sym c.is_root.ensures ∙ c.if-not-is_root.false in
    sym (at_it (is_root c.args.asked.now c.args.path.now c.args.symbol.now) c.loop-count.count
    (omega (arith, c.loop-count-test.true)) is)
    ∙ c.loop-count.invariant.left
