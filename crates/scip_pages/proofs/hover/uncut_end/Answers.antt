use Rattle.std.proofs.Common.{◌≡◌, ◌∙◌, ◌+◌, ◌-◌, ap, arith, sym}
use Rattle.scip_pages.specs.Hover.{uncut_end}
use Rattle.scip_pages.proofs.HoverLemmas.{end_at_start, end_before, end_here}
use Rattle.scip_pages.proofs.hover.uncut_end.Goals as goal

pub returns-then-is_uncut_at : goal.returns-then-is_uncut_at
returns-then-is_uncut_at c =
    sym (end_here c.args.text.now (c.args.most - c.loop-back.back) (omega arith)
    (sym c.is_uncut_at.ensures ∙ c.if-is_uncut_at.true))
    ∙ c.loop-back.invariant

pub loop-back-preserved : goal.loop-back-preserved
loop-back-preserved c =
    let left = c.args.most - c.loop-back.back in
    let one_less : c.args.most - (c.loop-back.back + 1) ≡ left - 1 = omega arith in
    ap (uncut_end c.args.text.now) one_less
    ∙ (sym (end_before c.args.text.now left (omega arith) (sym c.is_uncut_at.ensures ∙ c.if-is_uncut_at.false))
    ∙ c.loop-back.invariant)

pub returns : goal.returns
returns c =
    let none : 0 ≡ c.args.most - c.loop-back.back = omega arith in
    sym (end_at_start c.args.text.now) ∙ (ap (uncut_end c.args.text.now) none ∙ c.loop-back.invariant)
