use Rattle.scip_symbol.proofs.OneEntityClashLemmas.{without-clash}
use Rattle.scip_symbol.proofs.laws.files_are_without_clash.Goals as goal

pub returns : goal.returns
returns c = without-clash
