use Rattle.std.proofs.Common.{◌≡◌, map, take}
use Rattle.std.specs.Prelude.{All}
use Rattle.scip_symbol.specs.Package.{IsPackage}
use Rattle.programs.specs.Folders.{folder_package}
use Rattle.programs.proofs.folders.packages_of_folders.Given as goal

-- the packages so far
abbrev pub invariant-loop-folder : goal.invariant-loop-folder
invariant-loop-folder l =
    (l.ids.items ≡ map folder_package (take l.folder-index l.folders))
    × All (λ folder. IsPackage (folder_package folder)) (take l.folder-index l.folders)
