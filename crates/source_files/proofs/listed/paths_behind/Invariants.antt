use Rattle.std.proofs.Common.{◌≡◌, ◌≤◌, ◌+◌, ◌-◌, map, string_bytes}
use Rattle.std.specs.List.{range_with_len}
use Rattle.source_files.specs.ListedTrees.{paths_at}
use Rattle.source_files.proofs.listed.paths_behind.Given as goal

-- the paths below the roots so far
abbrev pub invariant-loop-number : goal.invariant-loop-number
invariant-loop-number l = record {
  begun : 1 ≤ l.number;
  upper : l.number ≤ 1 + (l.roots - 1);
  so_far : map (λ paths. map string_bytes paths.items) l.others.items
      ≡ map (λ number. paths_at number l.files) (range_with_len 1 (l.number - 1));
}
