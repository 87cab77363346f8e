use Rattle.scip_pages.proofs.UrlLemmas.{is_decoded, leads_to_the_page}
use Rattle.scip_pages.proofs.laws.urls_lead_to_their_pages.Goals as goal

pub returns : goal.returns
returns c = record { decoded = is_decoded; leads = leads_to_the_page }
