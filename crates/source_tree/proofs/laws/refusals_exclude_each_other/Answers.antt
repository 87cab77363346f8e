use Rattle.source_tree.proofs.LawLemmas.{refusals_exclude}
use Rattle.source_tree.proofs.laws.refusals_exclude_each_other.Goals as goal

pub returns : goal.returns
returns c = refusals_exclude
