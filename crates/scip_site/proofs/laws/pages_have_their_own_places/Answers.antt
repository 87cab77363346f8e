use Rattle.scip_site.proofs.LawPagePathLemmas.{has_a_good_path, has_its_own_path}
use Rattle.scip_site.proofs.laws.pages_have_their_own_places.Goals as goal

pub returns : goal.returns
returns c = record { good = has_a_good_path; own = has_its_own_path }
