use Rattle.scip_site.proofs.UrlLawFileLemmas.{page_urls_lead, first_urls_lead, listed_urls_lead}
use Rattle.scip_site.proofs.folder_laws.urls_lead_to_files.Goals as goal

pub returns : goal.returns
returns c = record { pages = page_urls_lead; first = first_urls_lead; listed = listed_urls_lead }
