use Rattle.proto_link.proofs.LawOmissionLemmas.{one_omission_list}
use Rattle.proto_link.proofs.laws.one_omission_list.Goals as goal

pub returns : goal.returns
returns c = λ duplicates files origins. one_omission_list files origins c.facts_in_order.ensures.names
    c.facts_in_order.ensures.package_name duplicates
