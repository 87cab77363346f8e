use Rattle.std.proofs.Common.{[], List, ℕ, length, map, string_bytes}
use Rattle.std.specs.Borrow.{Bor}
use Rattle.source_files.specs.Exclusions.{HasExcluded}
use Rattle.source_files.proofs.excluding.has_excluded.Given as goal

-- it is one of the rest, if it is one of all
abbrev pub invariant-loop-rest : goal.invariant-loop-rest
invariant-loop-rest l =
    (HasExcluded (map string_bytes l.patterns) (string_bytes l.folder) (map (λ (name : Bor (List ℕ)). name.now) l.rest)
    → HasExcluded (map string_bytes l.patterns) [] (map (λ (name : Bor (List ℕ)). name.now) l.names))
    × (HasExcluded (map string_bytes l.patterns) [] (map (λ (name : Bor (List ℕ)). name.now) l.names)
    → HasExcluded (map string_bytes l.patterns) (string_bytes l.folder)
    (map (λ (name : Bor (List ℕ)). name.now) l.rest))

abbrev pub decreases-loop-rest : goal.decreases-loop-rest
decreases-loop-rest l = length l.rest
