use Rattle.scip_wire.proofs.PieceLemmas.{spelling_joined}
use Rattle.scip_wire.proofs.laws.spelling_is_of_pieces.Goals as goal

pub returns : goal.returns
returns c = spelling_joined
