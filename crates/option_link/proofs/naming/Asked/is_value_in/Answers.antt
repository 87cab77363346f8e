use Rattle.option_link.proofs.LoopLemmas.{fails, never_so}
use Rattle.option_link.proofs.ValueLemmas.{no_value_in, value_in}
use Rattle.option_link.proofs.naming.Asked.is_value_in.Goals as goal

pub returns-then-not-is_a : goal.returns-then-not-is_a
returns-then-not-is_a c =
    never_so _ (no_value_in c.args.self.files.names.now c.args.outer.now c.args.place c.in-Some.declared.now
    c.in-Some.ensures.stands (fails c.is_a.result _ c.is_a.ensures c.if-not-is_a.true))

pub returns-else-not-is_a : goal.returns-else-not-is_a
returns-else-not-is_a c =
    value_in c.args.self.files.names.now c.args.outer.now c.args.place c.in-Some.declared.now c.in-Some.ensures.stands
    c.is_inside.result (c.is_a.ensures.0 c.if-not-is_a.false) c.is_inside.ensures

pub returns-in-None : goal.returns-in-None
returns-in-None c = never_so _ (λ x. c.in-None.ensures.stands x.inner x.stands)
