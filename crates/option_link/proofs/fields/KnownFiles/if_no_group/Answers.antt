use Rattle.std.proofs.Common.{refl}
use Rattle.option_link.proofs.LoopLemmas.{fails}
use Rattle.option_link.proofs.fields.KnownFiles.if_no_group.Goals as goal

pub returns-else-is_group : goal.returns-else-is_group
returns-else-is_group c =
    (refl, c.in-Some.fact, c.in-Some.ensures.field, fails c.is_group.result _ c.is_group.ensures c.if-is_group.false)
