use Rattle.option_link.proofs.LoopLemmas.{fails, never_so}
use Rattle.option_link.specs.Said.{asked_for}
use Rattle.option_link.proofs.SaidLemmas.{other_place, saying_by}
use Rattle.option_link.proofs.said.is_saying.Goals as goal

pub returns-then-not-is_at : goal.returns-then-not-is_at
returns-then-not-is_at c =
    never_so _ (other_place c.args.fact.now c.args.name (asked_for c.args.word)
    (fails c.is_at.result _ c.is_at.ensures c.if-not-is_at.true))

pub returns : goal.returns
returns c =
    saying_by c.args.fact.now c.args.name (asked_for c.args.word) c.is_asked_for.result
    (c.is_at.ensures.0 c.if-not-is_at.false) c.is_asked_for.ensures
