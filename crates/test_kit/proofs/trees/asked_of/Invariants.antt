use Rattle.std.proofs.Common.{◌≡◌, map, take}
use Rattle.std.specs.List.{flat_map}
use denote.Ref.{Bor}
use Rattle.std.proofs.Common.{List, ℕ}
use Rattle.test_kit.specs.Trees.{asked_in}
use Rattle.test_kit.proofs.trees.asked_of.Given as goal

-- the files so far
abbrev pub invariant-loop-file : goal.invariant-loop-file
invariant-loop-file l =
    l.found.items
    ≡ flat_map (asked_in l.included) (map (λ (file : Bor (List ℕ)). file.now) (take l.file-index l.file-items))
