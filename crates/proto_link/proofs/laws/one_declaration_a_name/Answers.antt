use Rattle.proto_link.proofs.LawOneItemLemmas.{one_declaration, package_not_declared}
use Rattle.proto_link.proofs.laws.one_declaration_a_name.Goals as goal

pub returns-clause-declarations : goal.returns-clause-declarations
returns-clause-declarations c =
    λ duplicates files origins. one_declaration files origins c.facts_in_order.ensures.names
    c.facts_in_order.ensures.package_name duplicates

pub returns-clause-packages : goal.returns-clause-packages
returns-clause-packages c =
    λ duplicates files origins clear number index other d can. package_not_declared files origins
    c.facts_in_order.ensures.names c.facts_in_order.ensures.package_name duplicates clear number index other d can
