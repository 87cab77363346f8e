use Rattle.std.specs.String.{string_bytes}
use Rattle.diagnostics.specs.Tables.Steps.{four}
use Rattle.diagnostics.proofs.CharacterLemmas.{one_more_sign}
use Rattle.diagnostics.proofs.shown.push_fours.Goals as goal

pub loop-byte-preserved : goal.loop-byte-preserved
loop-byte-preserved c =
    one_more_sign (four c.args.sign.now) (string_bytes c.args.out.now) (string_bytes c.loop-byte.out)
    (string_bytes c.push_four.new.out) c.args.bytes.now c.loop-byte._byte-index c.loop-byte-test.true
    c.loop-byte.invariant c.in_ok-push_four.ensures
