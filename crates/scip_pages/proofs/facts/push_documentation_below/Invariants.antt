use Rattle.std.proofs.Common.{◌≡◌, ◌++◌, take}
use Rattle.std.specs.List.{flat_map}
use Rattle.scip_pages.specs.Targets.{below}
use Rattle.scip_pages.proofs.facts.push_documentation_below.Given as goal

-- the texts so far
abbrev pub invariant-loop-text : goal.invariant-loop-text
invariant-loop-text l =
    l.label.items ≡ l.fn.label.items ++ flat_map below (take l.text-index l.documentation)
