use Rattle.std.proofs.Common.{length, ap, arith}
use Rattle.option_link.proofs.LoopLemmas.{never_so}
use Rattle.option_link.proofs.PathLemmas.{only_step}
use Rattle.option_link.proofs.paths.is_only.Goals as goal

pub returns-in-empty : goal.returns-in-empty
returns-in-empty c = never_so _ (λ same. omega (arith, ap length same))

pub returns-in-len1 : goal.returns-in-len1
returns-in-len1 c =
    only_step c.args.steps.now c.one-item.result c.args.step.now c.is_same_step.result (omega arith) c.one-item.is
    c.is_same_step.ensures

pub returns-in-len2-up : goal.returns-in-len2-up
returns-in-len2-up c = never_so _ (λ same. omega (arith, ap length same))
