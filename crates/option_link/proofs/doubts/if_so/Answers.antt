use Rattle.std.proofs.Common.{Bool, ap, sym}
use Rattle.option_link.specs.Doubts.{number_if}
use Rattle.option_link.proofs.doubts.if_so.Goals as goal

pub returns-then-not-is : goal.returns-then-not-is
returns-then-not-is c = sym (ap (λ (b : Bool). number_if b c.args.number) c.if-not-is.true)

pub returns : goal.returns
returns c = sym (ap (λ (b : Bool). number_if b c.args.number) c.if-not-is.false)
