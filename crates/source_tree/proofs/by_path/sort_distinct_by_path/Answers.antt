use Rattle.std.proofs.Common.{rules, ◌≡◌}
use Rattle.std.specs.Ordering.{is_lt}
use Rattle.std.proofs.lemmas.Fn.{always_returns_same}
use Rattle.source_tree.proofs.PathLemmas.{before, paths_rank}
use Rattle.source_tree.proofs.by_path.sort_distinct_by_path.Goals as goal

pub returns-clause-ascends : goal.returns-clause-ascends
returns-clause-ascends c =
    c.sort_unstable_by.ensures.sorted before paths_rank
    (always_returns_same _ (λ a r. is_lt r ≡ before a.0.now a.1.0.now) _ (λ a r f' k. search rules))
