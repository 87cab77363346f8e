use Rattle.std.specs.String.{string_bytes}
use Rattle.protoscip.proofs.LineLemmas.{none_so_far, one_more, all_lines}
use Rattle.protoscip.proofs.telling.push_lines.Goals as goal

pub loop-omission-init : goal.loop-omission-init
loop-omission-init c = record {
  lines = none_so_far c.args.explain c.args.tree.now c.args.told.now (string_bytes c.args.out.now);
  counter = c.new-counter.ensures;
}

pub loop-omission-preserved : goal.loop-omission-preserved
loop-omission-preserved c = record {
  lines = one_more c.args.explain c.args.tree.now c.args.told.now (string_bytes c.args.out.now)
      (string_bytes c.loop-omission.out)
      (string_bytes c.push_told.new.out) c.loop-omission.omission-index _ c.loop-omission-test.true
      c.loop-omission.invariant.lines c.in_ok-push_told.ensures.told;
  counter = c.in_ok-push_told.ensures.counter;
}

pub returns : goal.returns
returns c =
    all_lines c.args.explain c.args.tree.now c.args.told.now (string_bytes c.args.out.now)
    (string_bytes c.loop-omission.out)
    c.loop-omission.omission-index c.loop-omission-test.false c.loop-omission.invariant.lines
