use Rattle.scip_pages.proofs.LawLemmas.{leads_to_a_page, leads_if_defined}
use Rattle.scip_pages.proofs.page_laws.uses_lead_to_definitions.Goals as goal

pub returns : goal.returns
returns c = record { leads = leads_to_a_page; defined = leads_if_defined }
