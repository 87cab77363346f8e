use Rattle.scip_wire.proofs.OutputLemmas.{joined}
use Rattle.scip_wire.proofs.spell.document.encode_front.Goals as goal

pub returns : goal.returns
returns g c = joined _ _ (rw c.relative_path.ensures at c.encode_ref.ensures) c.encode_occurrences.ensures
