use Rattle.std.specs.Prelude.{codes}
use Rattle.std.specs.String.{string_bytes}
use Rattle.diagnostics.proofs.CharacterLemmas.{one_more_sign}
use Rattle.diagnostics.proofs.excerpt.push_blanks.Goals as goal

pub loop-digit-preserved : goal.loop-digit-preserved
loop-digit-preserved c =
    one_more_sign (codes " ") (string_bytes c.args.out.now) (string_bytes c.loop-digit.out)
    (string_bytes c.push_str.new.self) c.args.digits.now c.loop-digit._digit-index c.loop-digit-test.true
    c.loop-digit.invariant c.in_ok-push_str.ensures.bytes
