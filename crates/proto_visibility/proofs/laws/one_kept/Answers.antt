use Rattle.proto_visibility.proofs.KeptLemmas.{one_kept}
use Rattle.proto_visibility.proofs.laws.one_kept.Goals as goal

pub returns : goal.returns
returns c = one_kept
