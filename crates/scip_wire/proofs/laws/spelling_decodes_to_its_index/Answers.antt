use Rattle.scip_wire.proofs.SpellingLemmas.{spelling_decodes}
use Rattle.scip_wire.proofs.laws.spelling_decodes_to_its_index.Goals as goal

pub returns : goal.returns
returns c = spelling_decodes
