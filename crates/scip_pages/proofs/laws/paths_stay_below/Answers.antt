use Rattle.scip_pages.proofs.PathLemmas.{stays_below, has_its_own_place, names_lead_below}
use Rattle.scip_pages.proofs.laws.paths_stay_below.Goals as goal

pub returns : goal.returns
returns c = record { below = stays_below; own = has_its_own_place; names = names_lead_below }
