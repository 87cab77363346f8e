use Rattle.std.proofs.Common.{◌≡◌, map, take}
use Rattle.programs.specs.Settings.{package_in}
use Rattle.programs.proofs.folders.packages_of_included.Given as goal

-- the packages so far
abbrev pub invariant-loop : goal.invariant-loop
invariant-loop l = l.all.items ≡ map (λ _. package_in l.options) (take l.index l.options.include.items)
