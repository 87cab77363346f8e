use Rattle.std.proofs.Common.{arith}
use Rattle.diagnostics.proofs.LiteralLemmas.{from_is_len}
use Rattle.diagnostics.proofs.line.closing_len.Goals as goal

pub bytes-init : goal.bytes-init
bytes-init c =
    record { same = omega (arith, from_is_len c.args.quote c.args.others.now); fits = omega arith }
