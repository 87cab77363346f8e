use Rattle.std.proofs.Common.{arith}
use Rattle.diagnostics.specs.Gaps.{behind_gap}
use Rattle.diagnostics.proofs.LiteralTextLemmas.{gap_more}
use Rattle.diagnostics.proofs.gaps.behind_gap.Goals as goal

pub loop-left-preserved : goal.loop-left-preserved
loop-left-preserved c =
    gap_more c.loop-left.left c.piece_len-len.result c.loop-left.rest.now c.cut.result.1.now
    (behind_gap c.args.bytes.now) (omega (arith, c.loop-left-test.true)) c.piece_len-len.ensures.len
    (omega (arith, c.if-len-eq0.false)) c.cut.ensures.back c.loop-left.invariant
