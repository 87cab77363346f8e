use Rattle.scip_pages.proofs.PageUrlLemmas.{each_url_leads}
use Rattle.scip_pages.proofs.page_laws.urls_are_those_of_links.Goals as goal

pub returns : goal.returns
returns c = each_url_leads
