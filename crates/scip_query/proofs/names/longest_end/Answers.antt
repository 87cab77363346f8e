use Rattle.std.proofs.Common.{◌∙◌, sym, arith, drop, get_or, refl}
use Rattle.scip_query.proofs.NameLemmas.{whole_end, end_on, excess_on}
use Rattle.scip_query.proofs.names.longest_end.Goals as goal

pub returns-then-excess-eq0 : goal.returns-then-excess-eq0
returns-then-excess-eq0 c =
    let text = c.args.text.now in
    let at = c.loop-at.at in
    c.split_at.ensures.back
    ∙ sym (whole_end c.args.byte c.args.most (drop at text) (sym c.loop-at.invariant.excess ∙ c.if-excess-eq0.true))
    ∙ c.loop-at.invariant.ending

pub loop-at-preserved : goal.loop-at-preserved
loop-at-preserved c =
    let text = c.args.text.now in
    let at = c.loop-at.at in
    let b = get_or text at 0 in
    let excess = c.loop-at.excess in
    let counted = c.loop-at.invariant.excess in
    record {
      ending = sym (end_on c.args.byte c.args.most text at b excess (omega arith) refl counted
          (omega arith)) ∙ c.loop-at.invariant.ending;
      excess = c.without-excess.ensures
          ∙ excess_on c.args.byte c.args.most text at b excess (omega arith) refl counted (omega arith);
    }
