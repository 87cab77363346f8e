use Rattle.std.proofs.Common.{length}
use Rattle.scip_model.proofs.symbol_texts.+are_same_steps.Given as goal

abbrev pub decreases-are_same_steps : goal.decreases-are_same_steps
decreases-are_same_steps l = length l.a.now
