use Rattle.scip_pages.proofs.IdLemmas.{links_lead, uses_lead, definitions_lead}
use Rattle.scip_pages.proofs.IdOwnLemmas.{have_their_own_ids}
use Rattle.scip_pages.proofs.page_laws.links_lead_to_places.Goals as goal

pub returns : goal.returns
returns c = record {
  links = links_lead;
  uses = uses_lead;
  definitions = definitions_lead;
  own = have_their_own_ids;
}
