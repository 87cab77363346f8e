use Rattle.std.proofs.Common.{List, ℕ, Option, length, map, string_bytes}
use Rattle.source_files.specs.WellKnown.{IsFirstKnown}
use Rattle.source_files.proofs.well_known.first_known.Given as goal

-- the first of the rest is the first of all
abbrev pub invariant-loop-rest : goal.invariant-loop-rest
invariant-loop-rest g l =
    (found : Option (List ℕ)) → IsFirstKnown (g.F.FindFiles.finds l.files) (map string_bytes l.rest) found
    → IsFirstKnown (g.F.FindFiles.finds l.files) (map string_bytes l.folders) found

abbrev pub decreases-loop-rest : goal.decreases-loop-rest
decreases-loop-rest g l = length l.rest
