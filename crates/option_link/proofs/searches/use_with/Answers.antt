use Rattle.option_link.proofs.LoopLemmas.{at_get}
use Rattle.option_link.proofs.searches.use_with.Goals as goal

pub returns : goal.returns
returns c = at_get c.args.uses.now c.args.index c.get.result c.get.ensures.lookup
