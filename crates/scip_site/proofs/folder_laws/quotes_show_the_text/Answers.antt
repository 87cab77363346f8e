use Rattle.scip_site.proofs.ScriptLemmas.{show_the_text, end_nothing}
use Rattle.scip_site.proofs.folder_laws.quotes_show_the_text.Goals as goal

pub returns : goal.returns
returns c = record { text = show_the_text; end = end_nothing }
