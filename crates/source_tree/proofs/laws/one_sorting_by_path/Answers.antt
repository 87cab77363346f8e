use Rattle.source_tree.proofs.LawLemmas.{the_one_sorting}
use Rattle.source_tree.proofs.laws.one_sorting_by_path.Goals as goal

pub returns : goal.returns
returns c = the_one_sorting
