use Rattle.std.proofs.Common.{◌∙◌}
use Rattle.scip_pages.proofs.HoverLemmas.{uncut_past, uncut_there}
use Rattle.scip_pages.proofs.hover.is_uncut_at.Goals as goal

pub returns-in-Some : goal.returns-in-Some
returns-in-Some c =
    c.is_first_byte.ensures
    ∙ uncut_there c.args.text.now c.args.offset c.in-Some.byte.now c.in-Some.ensures.lookup.3.0
    c.in-Some.ensures.lookup.1

pub returns-in-None : goal.returns-in-None
returns-in-None c = uncut_past c.args.text.now c.args.offset c.in-None.ensures.lookup.3
