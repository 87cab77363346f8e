use Rattle.source_tree.proofs.LawLemmas.{the_one_tree}
use Rattle.source_tree.proofs.laws.one_tree.Goals as goal

pub returns : goal.returns
returns c = the_one_tree
