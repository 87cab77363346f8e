use Rattle.proto_link.proofs.LawLemmas.{one_name_a_use}
use Rattle.proto_link.proofs.laws.one_name_a_use.Goals as goal

pub returns : goal.returns
returns c = one_name_a_use
