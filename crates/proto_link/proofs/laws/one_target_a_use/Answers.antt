use Rattle.proto_link.proofs.TargetOneLemmas.{one_entity, one_target}
use Rattle.proto_link.proofs.laws.one_target_a_use.Goals as goal

pub returns-clause-entities : goal.returns-clause-entities
returns-clause-entities c =
    λ duplicates files origins. one_entity files origins c.facts_in_order.ensures.names
    c.facts_in_order.ensures.package_name duplicates

pub returns-clause-targets : goal.returns-clause-targets
returns-clause-targets c =
    λ duplicates files origins. one_target files origins c.facts_in_order.ensures.names
    c.facts_in_order.ensures.package_name duplicates
