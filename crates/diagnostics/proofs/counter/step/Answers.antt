use Rattle.std.proofs.Common.{◌≡◌, ◌<◌, false, arith, get_or, sym, ◌∙◌}
use Rattle.diagnostics.specs.Characters.{goes_on}
use Rattle.diagnostics.proofs.CountingLemmas.{counted_more, counted_same}
use Rattle.diagnostics.proofs.counter.step.Goals as goal
use Rattle.diagnostics.proofs.counter.step.Goals.{else-spot-gt1-via-then-spot-gt1+else-goes_on}
use Rattle.diagnostics.proofs.counter.step.Goals.{else-spot-gt1-via-else-spot-gt1}

pub returns-then-goes_on-clause-counted : goal.returns-then-goes_on-clause-counted
returns-then-goes_on-clause-counted c =
    counted_same c.args.text.now c.args.spot.at c.args.spot.line c.args.spot.column c.requires.counted c.requires.more
    (sym c.is_line_end.ensures ∙ c.if-is_line_end.false) c.if-spot-gt1.true (sym c.goes_on.ensures ∙ c.if-goes_on.true)

pub returns-else-spot-gt1-clause-counted : goal.returns-else-spot-gt1-clause-counted
returns-else-spot-gt1-clause-counted c =
    let off : 1 < c.args.spot.column → goes_on (get_or c.args.text.now c.args.spot.at 0) ≡ false =
    elim c.else-spot-gt1.branch [
      | else-spot-gt1-via-then-spot-gt1+else-goes_on w ↦ λ some. sym w.goes_on.ensures ∙ w.if-goes_on.false
      | else-spot-gt1-via-else-spot-gt1 w ↦ λ some. absurd (omega (arith, some, w.if-spot-gt1.false))
    ] in
    counted_more c.args.text.now c.args.spot.at c.args.spot.line c.args.spot.column c.requires.counted c.requires.more
    (sym c.is_line_end.ensures ∙ c.if-is_line_end.false) off
