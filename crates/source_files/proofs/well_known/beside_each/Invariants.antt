use Rattle.std.proofs.Common.{◌++◌, List, ℕ, length, map, string_bytes}
use Rattle.std.specs.Borrow.{Bor}
use Rattle.source_files.specs.WellKnown.{AreBeside, folder_named}
use Rattle.source_files.proofs.well_known.beside_each.Given as goal

-- what is beside the rest comes behind what is beside the folders so far
abbrev pub invariant-loop-rest : goal.invariant-loop-rest
invariant-loop-rest g l =
    (more : List (List ℕ)) → AreBeside (g.F.FindFiles.finds l.files)
    (map (λ (name : Bor (List ℕ)). folder_named name.now) l.rest) more
    → AreBeside (g.F.FindFiles.finds l.files)
    (map (λ (name : Bor (List ℕ)). folder_named name.now) l.names) (map string_bytes l.beside.items ++ more)

abbrev pub decreases-loop-rest : goal.decreases-loop-rest
decreases-loop-rest g l = length l.rest
