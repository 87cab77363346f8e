use Rattle.std.proofs.Common.{sym, ◌∙◌}
use Rattle.option_link.proofs.LoopLemmas.{never_so, none_of, some_of}
use Rattle.option_link.proofs.fields.KnownFiles.is_item_of.Goals as goal

pub is_item_named-requires-clause-stands : goal.is_item_named-requires-clause-stands
is_item_named-requires-clause-stands c =
    let its = some_of _ _ _ c.in-Some.is c.in_ok-full_name.ensures in (its.0, its.1, its.2 ∙ sym c.as_str.ensures.value)

pub returns-in-None : goal.returns-in-None
returns-in-None c =
    never_so _ (λ x. none_of _ _ c.in-None.is c.in_ok-full_name.ensures x.member.inner x.member.stands)
