use Rattle.std.proofs.Common.{◌∙◌, List, ℕ, [], map, sym}
use Rattle.std.specs.Borrow.{Bor}
use Rattle.scip_pages.proofs.CountedLemmas.{line_listed}
use Rattle.scip_pages.proofs.counted.milestones_of.Goals as goal

pub loop-number-preserved : goal.loop-number-preserved
loop-number-preserved c =
    let none : Bor (List ℕ) = record { ref_ptr = (0, 0); now = [] } in
    c.in_ok-push_milestones.ensures (map (λ (line : Bor (List ℕ)). line.now) c.args.lines.now)
    (line_listed c.args.lines.now c.loop-number.number none c.loop-number-test.true ∙ sym c.as_bytes.ensures.value)
    c.loop-number.invariant
