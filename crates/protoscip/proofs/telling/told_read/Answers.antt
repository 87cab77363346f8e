use Rattle.protoscip.proofs.ToldBesideLemmas.{read_more}
use Rattle.protoscip.proofs.telling.told_read.Goals as goal

pub loop-omission-preserved : goal.loop-omission-preserved
loop-omission-preserved c =
    read_more c.args.told.now c.loop-omission.read.items c.push_read.new.read.items c.loop-omission.omission-index _
    c.loop-omission-test.true c.loop-omission.invariant c.in_ok-push_read.ensures
