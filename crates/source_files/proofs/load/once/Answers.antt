use Rattle.std.specs.String.{string_eq}
use Rattle.std.proofs.lemmas.List.Filters.{dedup_is}
use Rattle.source_files.proofs.WalkOnceLemmas.{are_once}
use Rattle.source_files.proofs.load.once.Goals as goal

pub returns : goal.returns
returns c =
    are_once c.args.paths.items c.sort.new.self.items c.dedup.new.self.items c.sort.ensures.permutation
    c.in_ok-sort.ensures.sorted (dedup_is string_eq _ _ c.dedup.ensures.filtered)
