use Rattle.proto_link.proofs.LawOwnerLemmas.{no_use_is_ambiguous}
use Rattle.proto_link.proofs.laws.no_use_is_ambiguous.Goals as goal

pub returns : goal.returns
returns c = no_use_is_ambiguous
