use Rattle.scip_model.proofs.KnownPartLemmas.{none_there}
use Rattle.scip_model.proofs.known_parts.KnownParts.new.Goals as goal

pub returns : goal.returns
returns c = none_there c.in_ok-slots.slots.items c.in_ok-slots.ensures
