use Rattle.option_link.proofs.LoopLemmas.{not_so}
use Rattle.option_link.proofs.giving.is_none_of_extension.Goals as goal

pub returns : goal.returns
returns c = not_so c.is_as.result _ c.is_as.ensures
