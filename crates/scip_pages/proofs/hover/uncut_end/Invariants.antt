use Rattle.std.proofs.Common.{◌≡◌, ◌-◌}
use Rattle.scip_pages.specs.Hover.{uncut_end}
use Rattle.scip_pages.proofs.hover.uncut_end.Given as goal

-- no offset so far is the end
abbrev pub invariant-loop-back : goal.invariant-loop-back
invariant-loop-back l = uncut_end l.text (l.most - l.back) ≡ uncut_end l.text l.most
