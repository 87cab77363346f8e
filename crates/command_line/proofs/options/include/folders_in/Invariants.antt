use Rattle.std.proofs.Common.{◌≡◌, ◌++◌, length, map}
use Rattle.command_line.specs.Options.Include.{folder_of, folders_in}
use Rattle.command_line.proofs.options.include.folders_in.Given as goal

-- the folders so far, and those of the rest
abbrev pub invariant-loop-rest : goal.invariant-loop-rest
invariant-loop-rest l =
    map folder_of l.folders.items ++ folders_in (map (λ s. s.now) l.rest) ≡ folders_in (map (λ s. s.now) l.texts)

abbrev pub decreases-loop-rest : goal.decreases-loop-rest
decreases-loop-rest l = length l.rest
