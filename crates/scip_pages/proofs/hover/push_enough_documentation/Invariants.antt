use Rattle.std.proofs.Common.{◌≡◌, ◌++◌, List, ℕ, take}
use Rattle.std.specs.List.{flat_map}
use Rattle.scip_pages.specs.Targets.{below}
use Rattle.scip_pages.proofs.hover.push_enough_documentation.Given as goal

-- the texts so far
abbrev pub invariant-loop-paragraph : goal.invariant-loop-paragraph
invariant-loop-paragraph l =
    (front : List ℕ) → l.fn.text.items ≡ take 4097 front
    → l.text.items ≡ take 4097 (front ++ flat_map below (take l.paragraph-index l.documentation))
