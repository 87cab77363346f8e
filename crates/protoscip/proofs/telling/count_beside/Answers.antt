use Rattle.std.proofs.Common.{arith}
use Rattle.protoscip.proofs.ToldBesideLemmas.{counts_all, counts_read}
use Rattle.protoscip.proofs.telling.count_beside.Goals as goal

pub returns-in-empty : goal.returns-in-empty
returns-in-empty c =
    counts_all c.args.unread.now c.args.told.now c.count_skipped.result (omega arith) c.count_skipped.ensures

pub returns-in-len1-up : goal.returns-in-len1-up
returns-in-len1-up c =
    counts_read c.args.unread.now c.args.told.now c.count_skipped_read.result (omega arith)
    c.count_skipped_read.ensures
