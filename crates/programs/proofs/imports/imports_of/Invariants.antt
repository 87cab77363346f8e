use Rattle.std.proofs.Common.{◌≡◌, map, take}
use Rattle.programs.specs.Imports.{import_of}
use Rattle.programs.proofs.imports.imports_of.Given as goal

-- the imports so far
abbrev pub invariant-loop-imported : goal.invariant-loop-imported
invariant-loop-imported l = l.imports.items ≡ map import_of (take l.imported-index l.all)
