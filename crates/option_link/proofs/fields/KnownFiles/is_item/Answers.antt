use Rattle.option_link.proofs.LoopLemmas.{fails, never_so}
use Rattle.option_link.proofs.fields.KnownFiles.is_item.Goals as goal

pub returns-then-not-is_extending : goal.returns-then-not-is_extending
returns-then-not-is_extending c =
    never_so _ (λ x. fails c.is_extending.result _ c.is_extending.ensures c.if-not-is_extending.true
    (x.extends.fact, x.extends.is, x.extends.start, x.extends.extended))

pub is_item_of-requires : goal.is_item_of-requires
is_item_of-requires c = c.is_extending.ensures.0 c.if-not-is_extending.false
