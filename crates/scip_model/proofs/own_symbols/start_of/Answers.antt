use Rattle.scip_model.proofs.OwnTextJoinedLemmas.{start_is}
use Rattle.scip_model.proofs.own_symbols.start_of.Goals as goal

pub returns-else-index-eq0 : goal.returns-else-index-eq0
returns-else-index-eq0 c = start_is c.args.ends.now c.args.index c.if-index-eq0.false c.requires
