use Rattle.source_tree.proofs.LawLemmas.{trees_not_refused}
use Rattle.source_tree.proofs.laws.trees_are_not_refused.Goals as goal

pub returns : goal.returns
returns c = trees_not_refused
