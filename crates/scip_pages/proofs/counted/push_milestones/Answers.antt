use Rattle.std.proofs.Common.{◌∙◌, ◌+◌, ◌%◌, ◌==◌, ap, arith, subst, sym}
use Rattle.scip_pages.specs.declared.counted.Milestone.{Milestone}
use Rattle.scip_pages.specs.CodeText.{line_at}
use Rattle.scip_pages.specs.Counted.{AreMilestones, IsMilestone}
use Rattle.scip_pages.proofs.ColumnLemmas.{more_units}
use Rattle.scip_pages.proofs.CountedLemmas.{all_or_one, of_line}
use Rattle.scip_pages.proofs.counted.push_milestones.Goals as goal

pub loop-offset-preserved : goal.loop-offset-preserved
loop-offset-preserved c =
    let one : Milestone = record { line = c.args.number; offset = c.loop-offset.offset; units = c.loop-offset.units } in
    record {
      counted = ap (λ n. c.loop-offset.units + n) c.units_of-units.ensures.units
          ∙ more_units c.args.unit c.args.line.now c.loop-offset.offset c.loop-offset.units c.loop-offset-test.true
          c.loop-offset.invariant.counted;
      kept = λ lines same before. subst (AreMilestones c.args.unit lines) (sym c.in_ok-push_if_due.ensures)
          (all_or_one (λ milestone. IsMilestone c.args.unit (line_at lines milestone.line) milestone)
          c.loop-offset.milestones.items one (one.offset % 1024 == 0)
          (c.loop-offset.invariant.kept lines same before)
          (of_line c.args.unit lines c.args.line.now one same
          (omega (arith, c.loop-offset-test.true), c.loop-offset.invariant.counted)));
    }
