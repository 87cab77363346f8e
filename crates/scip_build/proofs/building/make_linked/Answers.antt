use Rattle.std.proofs.Common.{◌∙◌}
use Rattle.scip_build.proofs.building.make_linked.Goals as goal

pub make_with-requires-clause-beside : goal.make_with-requires-clause-beside
make_with-requires-clause-beside g c = λ _ _ asks. c.in_ok-beside.ensures (c.asks_options-asked.ensures ∙ asks)
