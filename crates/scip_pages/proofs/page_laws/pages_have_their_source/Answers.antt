use Rattle.scip_pages.proofs.LawLemmas.{has_the_source}
use Rattle.scip_pages.proofs.page_laws.pages_have_their_source.Goals as goal

pub returns : goal.returns
returns c = has_the_source
