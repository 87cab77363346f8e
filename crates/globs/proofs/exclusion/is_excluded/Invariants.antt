use Rattle.std.proofs.Common.{map, take, string_bytes}
use Rattle.globs.specs.Exclusions.{IsExcluded}
use Rattle.globs.proofs.exclusion.is_excluded.Given as goal

-- none of those so far excludes it
abbrev pub invariant-loop-pattern : goal.invariant-loop-pattern
invariant-loop-pattern l = ¬ (IsExcluded (map string_bytes (take l.pattern-index l.patterns)) l.folder l.name)
