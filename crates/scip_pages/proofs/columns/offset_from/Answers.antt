use Rattle.std.proofs.Common.{◌≡◌, ◌∙◌, sym, ap, arith, length, ◌+◌, ◌-◌}
use Rattle.scip_pages.specs.Columns.{is_at, offset_of}
use Rattle.scip_pages.proofs.ColumnLemmas.{ends_here, first_from, is_here, goes_on, more_units, none_past}
use Rattle.scip_pages.proofs.ColumnOffsetLemmas.{first_from_there}
use Rattle.scip_pages.proofs.columns.offset_from.Goals as goal

pub returns-then-is_here : goal.returns-then-is_here
returns-then-is_here c =
    sym (is_here c.args.unit c.args.line.now c.from-wanted.result c.loop-at.at c.loop-at.units c.loop-at-test.true
    c.loop-at.invariant.counted (sym c.is_here.ensures ∙ c.if-is_here.true))
    ∙ c.loop-at.invariant.left ∙ ap (offset_of c.args.unit c.args.line.now) c.from-wanted.ensures

pub returns-then-units-wanted : goal.returns-then-units-wanted
returns-then-units-wanted c =
    let units = ap (λ n. c.loop-at.units + n) c.units_of-units.ensures.units
    ∙ more_units c.args.unit c.args.line.now c.loop-at.at c.loop-at.units c.loop-at-test.true
    c.loop-at.invariant.counted in
    sym (none_past c.args.unit c.args.line.now c.from-wanted.result (length c.args.line.now + 1 - (c.loop-at.at + 1))
    (c.loop-at.at + 1) (omega (arith, units, c.if-units-wanted.true)))
    ∙ sym (goes_on c.args.unit c.args.line.now c.from-wanted.result c.loop-at.at c.loop-at.units c.loop-at-test.true
    c.loop-at.invariant.counted (sym c.is_here.ensures ∙ c.if-is_here.false))
    ∙ c.loop-at.invariant.left ∙ ap (offset_of c.args.unit c.args.line.now) c.from-wanted.ensures

pub loop-at-preserved : goal.loop-at-preserved
loop-at-preserved c = record {
  counted = ap (λ n. c.loop-at.units + n) c.units_of-units.ensures.units
      ∙ more_units c.args.unit c.args.line.now c.loop-at.at c.loop-at.units c.loop-at-test.true
      c.loop-at.invariant.counted;
  few = c.if-units-wanted.false;
  left = sym (goes_on c.args.unit c.args.line.now c.from-wanted.result c.loop-at.at c.loop-at.units c.loop-at-test.true
      c.loop-at.invariant.counted (sym c.is_here.ensures ∙ c.if-is_here.false))
      ∙ c.loop-at.invariant.left;
}

pub loop-at-init : goal.loop-at-init
loop-at-init c = record {
  counted = c.requires.counted;
  few = omega (arith, c.requires.few, c.from-wanted.ensures);
  left = ap (λ n. first_from (is_at c.args.unit c.args.line.now n) (length c.args.line.now) c.args.start)
      c.from-wanted.ensures
      ∙ (first_from_there c.args.unit c.args.line.now c.args.column c.args.start c.requires.within
      (omega (arith, c.requires.few, c.requires.counted))
      ∙ ap (offset_of c.args.unit c.args.line.now) (sym c.from-wanted.ensures));
}

pub returns-then-units-wanted-2 : goal.returns-then-units-wanted-2
returns-then-units-wanted-2 c =
    let end : c.loop-at.at ≡ length c.args.line.now = omega arith in
    sym (ends_here c.args.unit c.args.line.now c.from-wanted.result c.loop-at.at c.loop-at.units end
    c.loop-at.invariant.counted c.if-units-wanted-2.true)
    ∙ c.loop-at.invariant.left ∙ ap (offset_of c.args.unit c.args.line.now) c.from-wanted.ensures
