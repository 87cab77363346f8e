use Rattle.std.proofs.Common.{◌≡◌, ◌≤◌, ◌+◌, ◌∙◌, ap, refl, sym, arith, length, take, false}
use Rattle.std.specs.List.{count_by, slice_get}
use Rattle.std.specs.Option.{is_some}
use Rattle.scip_query.specs.Outline.{ends_descriptor_at, is_defined, is_inside}
use Rattle.scip_query.specs.Tables.{numbers}
use Rattle.scip_query.proofs.FrontLemmas.{all_begin}
use Rattle.scip_query.proofs.OutlineLemmas.{depth_few, depth_more, inside_nothing, inside_where}
use Rattle.scip_query.proofs.outline.depth_in.Goals as goal
use Rattle.scip_query.proofs.outline.depth_in.Goals.{then-goes_on, else-goes_on}

pub loop-number-init : goal.loop-number-init
loop-number-init c = record {
  few = omega arith;
  before = omega arith;
  begun = λ d defined. all_begin d c.args.symbol.now c.args.table.now defined;
  counted = λ d defined. refl;
}

pub loop-number-preserved : goal.loop-number-preserved
loop-number-preserved c =
    let symbol = c.args.symbol.now in
    let number = c.loop-number.number in
    let depth = c.loop-number.depth in
    let ends = ends_descriptor_at (slice_get symbol number) in
    let some = is_some (slice_get symbol (number + 1)) in
    let within : number + 1 ≤ length symbol = omega arith in
    elim c.if-goes_on.branch [
      | then-goes_on w ↦ record {
        few = omega (
          arith,
          w.depth-is,
          depth_few w.is_first.result depth w.more_by-depth.result number
              w.more_by-depth.ensures c.loop-number.invariant.few,
        );
        before = omega (arith, w.from-is);
        begun = λ d defined.
            rw (w.from-is, w.run-is) (w.narrowed-run.ensures d (c.loop-number.invariant.begun d defined));
        counted = λ d defined.
            let front = is_defined d (take (number + 1) symbol) in
            w.depth-is
            ∙ depth_more (is_inside d symbol) number depth w.more_by-depth.result w.is_first.result
            w.more_by-depth.ensures
            (w.is_first.ensures d symbol (w.narrowed-run.ensures d (c.loop-number.invariant.begun d defined)) within
            ∙ inside_where ends some front (sym c.goes_on.ensures ∙ w.if-goes_on.true))
            (c.loop-number.invariant.counted d defined);
      }
      | else-goes_on w ↦ record {
        few = omega (arith, w.depth-is, c.loop-number.invariant.few);
        before = omega (arith, w.from-is, c.loop-number.invariant.before);
        begun = λ d defined. rw (w.from-is, w.run-is) (c.loop-number.invariant.begun d defined);
        counted = λ d defined.
            let front = is_defined d (take (number + 1) symbol) in
            w.depth-is
            ∙ depth_more (is_inside d symbol) number depth depth false (omega arith)
            (inside_nothing ends some front (sym c.goes_on.ensures ∙ w.if-goes_on.false))
            (c.loop-number.invariant.counted d defined);
      }
    ]

pub returns : goal.returns
returns c = λ d defined.
    let all : c.loop-number.number ≡ length c.args.symbol.now = omega arith in
    c.loop-number.invariant.counted d defined
    ∙ ap (λ n. count_by (is_inside d c.args.symbol.now) (numbers n)) all
