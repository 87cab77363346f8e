use Rattle.option_link.proofs.TargetLemmas.{one_target}
use Rattle.option_link.proofs.laws.one_target_a_name.Goals as goal

pub returns : goal.returns
returns c =
    λ duplicates files origins clear known order. one_target files origins c.facts_in_order.ensures.names
    c.facts_in_order.ensures.package_name known order c.facts_in_order.ensures.uses
    c.facts_are_filled.ensures.uses duplicates clear
