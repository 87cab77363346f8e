use Rattle.option_link.proofs.ContextLemmas.{one_context}
use Rattle.option_link.proofs.laws.one_context_a_name.Goals as goal

pub returns : goal.returns
returns c =
    λ files origins known order. one_context files origins known order c.facts_in_order.ensures.names
    c.facts_in_order.ensures.uses c.facts_are_filled.ensures.uses
