use Rattle.option_link.specs.Contexts.IsTakenOption.{default, json_name}
use Rattle.option_link.specs.Contexts.Root.{taken, options}
use Rattle.option_link.proofs.LoopLemmas.{fails}
use Rattle.option_link.proofs.RootLemmas.{not_taken}
use Rattle.option_link.proofs.naming.Asked.root.Goals as goal

pub returns-then-is_taken : goal.returns-then-is_taken
returns-then-is_taken c = taken (default (c.is_taken.ensures.0 c.if-is_taken.true).1)

pub returns-then-is_taken-2 : goal.returns-then-is_taken-2
returns-then-is_taken-2 c = taken (json_name (c.is_taken-2.ensures.0 c.if-is_taken-2.true).1)

pub returns : goal.returns
returns c =
    options (not_taken c.args.self.text.now c.args.self.option.now
    (fails c.is_taken.result _ c.is_taken.ensures c.if-is_taken.false)
    (fails c.is_taken-2.result _ c.is_taken-2.ensures c.if-is_taken-2.false))
