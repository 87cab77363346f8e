use Rattle.std.proofs.Common.{arith}
use Rattle.source_files.proofs.ListedLemmas.{behind_last, behind_next}
use Rattle.source_files.proofs.listed.paths_behind.Goals as goal

pub loop-number-preserved : goal.loop-number-preserved
loop-number-preserved c = record {
  begun = omega arith;
  upper = omega arith;
  so_far = behind_next c.args.files.now c.loop-number.number _ _ c.loop-number.invariant.begun
      c.in_ok-push_paths_at.ensures c.loop-number.invariant.so_far;
}

pub returns : goal.returns
returns c =
    behind_last c.args.files.now c.args.roots c.loop-number.number _
    (omega (arith, c.loop-number.invariant.begun, c.loop-number.invariant.upper)) c.loop-number.invariant.so_far
