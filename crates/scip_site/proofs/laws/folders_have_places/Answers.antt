use Rattle.scip_site.proofs.FolderLawLemmas.{folders_have}
use Rattle.scip_site.proofs.LawPagePathLemmas.{have_their_own_ids}
use Rattle.scip_site.proofs.laws.folders_have_places.Goals as goal

pub returns : goal.returns
returns c = record { places = folders_have; own = have_their_own_ids }
