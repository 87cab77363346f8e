use Rattle.proto_link.proofs.TargetOneLemmas.{one_clash, one_absence, one_refusal}
use Rattle.proto_link.proofs.laws.one_refusal.Goals as goal

pub returns-clause-clash : goal.returns-clause-clash
returns-clause-clash c =
    λ duplicates files origins. one_clash files origins c.facts_in_order.ensures.names
    c.facts_in_order.ensures.package_name duplicates

pub returns-clause-absence : goal.returns-clause-absence
returns-clause-absence c = λ files origins. one_absence files origins c.facts_in_order.ensures.imports

pub returns-clause-refusal : goal.returns-clause-refusal
returns-clause-refusal c =
    λ duplicates files origins. one_refusal files origins c.facts_in_order.ensures.names
    c.facts_in_order.ensures.package_name c.facts_in_order.ensures.imports duplicates
