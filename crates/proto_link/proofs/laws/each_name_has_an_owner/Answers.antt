use Rattle.proto_link.proofs.LawOwnerLemmas.{each_name_has_an_owner}
use Rattle.proto_link.proofs.laws.each_name_has_an_owner.Goals as goal

pub returns : goal.returns
returns c = each_name_has_an_owner
