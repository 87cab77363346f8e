use Rattle.std.proofs.Common.{length}
use Rattle.scip_survey.proofs.near.+last_of.Given as goal

abbrev pub decreases-last_of : goal.decreases-last_of
decreases-last_of l = length l.texts.now
