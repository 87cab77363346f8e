use Rattle.std.proofs.Common.{◌∙◌}
use Rattle.scip_pages.proofs.ToldLemmas.{indented}
use Rattle.scip_pages.proofs.told.push_indent.Goals as goal

pub loop-level-preserved : goal.loop-level-preserved
loop-level-preserved c =
    c.in_ok-extend_from_slice.ensures.items
    ∙ indented c.args.text.now.items c.loop-level.text.items c.loop-level._level c.loop-level.invariant
