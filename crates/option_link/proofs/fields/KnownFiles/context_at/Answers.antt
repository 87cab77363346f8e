use Rattle.option_link.specs.Typed.GivesAt.{message, enum}
use Rattle.option_link.proofs.LoopLemmas.{fails}
use Rattle.option_link.proofs.FieldLemmas.{gives_nothing, gives_nowhere}
use Rattle.option_link.proofs.fields.KnownFiles.context_at.Goals as goal

pub returns-then-is_a : goal.returns-then-is_a
returns-then-is_a c = message c.in-Some.ensures.stands (c.is_a.ensures.0 c.if-is_a.true)

pub returns-then-is_a-2 : goal.returns-then-is_a-2
returns-then-is_a-2 c = enum c.in-Some.ensures.stands (c.is_a-in-Some.ensures.0 c.if-is_a-2.true)

pub returns-else-is_a-2 : goal.returns-else-is_a-2
returns-else-is_a-2 c =
    gives_nothing c.args.self.names.now c.args.place c.in-Some.declared.now c.in-Some.ensures.stands
    (fails c.is_a.result _ c.is_a.ensures c.if-is_a.false) (fails c.is_a-in-Some.result _ c.is_a-in-Some.ensures
    c.if-is_a-2.false)

pub returns-in-None : goal.returns-in-None
returns-in-None c = gives_nowhere c.args.self.names.now c.args.place c.in-None.ensures.stands
