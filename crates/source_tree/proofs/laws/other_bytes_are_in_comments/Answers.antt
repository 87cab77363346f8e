use Rattle.source_tree.proofs.MendingLawLemmas.{others_in_comments, utf8_as_it_is}
use Rattle.source_tree.proofs.laws.other_bytes_are_in_comments.Goals as goal

pub returns-clause-others : goal.returns-clause-others
returns-clause-others c = others_in_comments

pub returns-clause-same : goal.returns-clause-same
returns-clause-same c = utf8_as_it_is
