use Rattle.scip_pages.proofs.EscapeLemmas.{shows_the_text, pictures_nul_alone, shows_the_rest}
use Rattle.scip_pages.proofs.laws.escapes_show_the_text.Goals as goal

pub returns : goal.returns
returns c = record { text = shows_the_text; nul = pictures_nul_alone; rest = shows_the_rest }
