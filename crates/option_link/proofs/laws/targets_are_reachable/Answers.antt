use Rattle.option_link.proofs.ReachLemmas.{targets_reachable}
use Rattle.option_link.proofs.laws.targets_are_reachable.Goals as goal

pub returns : goal.returns
returns c = targets_reachable
