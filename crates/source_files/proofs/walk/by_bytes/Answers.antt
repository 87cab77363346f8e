use Rattle.std.proofs.Common.{string_bytes}
use Rattle.std.proofs.lemmas.List.Sorted.{IsPermutation-map}
use Rattle.source_files.proofs.WalkLemmas.{sorted_texts}
use Rattle.source_files.proofs.walk.by_bytes.Goals as goal

pub returns : goal.returns
returns c = record {
  complete = IsPermutation-map string_bytes c.args.paths.now.items c.sort.new.self.items c.sort.ensures.permutation;
  ascends = sorted_texts string_bytes c.sort.new.self.items c.in_ok-sort.ensures.sorted;
}
