use Rattle.option_link.proofs.LoopLemmas.{fails, never_so}
use Rattle.option_link.proofs.PathLemmas.{too_few, other_front, with_last}
use Rattle.option_link.proofs.paths.are_with_last.Goals as goal

pub returns-then-steps-front : goal.returns-then-steps-front
returns-then-steps-front c =
    never_so _ (too_few c.args.steps.now c.args.front.now c.args.last.now c.if-steps-front.true)

pub returns-then-not-are_same_steps : goal.returns-then-not-are_same_steps
returns-then-not-are_same_steps c =
    never_so _ (other_front c.args.steps.now c.args.front.now c.args.last.now c.split_at.result.0.now
    c.split_at.ensures.front (fails c.are_same_steps.result _ c.are_same_steps.ensures c.if-not-are_same_steps.true))

pub returns : goal.returns
returns c =
    with_last c.args.steps.now c.args.front.now c.args.last.now c.split_at.result.0.now c.split_at.result.1.now
    c.is_only.result c.split_at.ensures.front c.split_at.ensures.back
    (c.are_same_steps.ensures.0 c.if-not-are_same_steps.false) c.is_only.ensures
