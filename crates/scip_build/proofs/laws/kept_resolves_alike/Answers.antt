use Rattle.scip_build.proofs.KeptUseLemmas.{kept_resolves_alike}
use Rattle.scip_build.proofs.laws.kept_resolves_alike.Goals as goal

pub returns : goal.returns
returns c = kept_resolves_alike
