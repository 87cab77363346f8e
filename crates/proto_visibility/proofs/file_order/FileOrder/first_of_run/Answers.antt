use Rattle.std.proofs.Common.{arith}
use Rattle.proto_visibility.proofs.FileOrderLemmas.{none_of_run_more}
use Rattle.proto_visibility.proofs.file_order.FileOrder.first_of_run.Goals as goal

pub loop-place-init : goal.loop-place-init
loop-place-init c = λ place number low high. absurd (omega (arith, low, high))

pub loop-place-preserved : goal.loop-place-preserved
loop-place-preserved c =
    none_of_run_more c.args.self.now c.args.numbers.now c.args.run c.loop-place.place c.in_default.ensures
    c.loop-place.invariant
