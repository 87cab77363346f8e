use Rattle.std.proofs.Common.{◌≡◌, ◌++◌, map, take}
use Rattle.std.specs.String.{string_bytes}
use Rattle.programs.proofs.folders.included_folders.Given as goal

-- the folders so far: of the first kind,
abbrev pub invariant-loop-folder : goal.invariant-loop-folder
invariant-loop-folder l =
    map string_bytes l.folders.items ≡ map string_bytes (take l.folder-index l.options.include.items)

-- and of the second behind them
abbrev pub invariant-loop-folder-2 : goal.invariant-loop-folder-2
invariant-loop-folder-2 l =
    map string_bytes l.folders.items
    ≡ map string_bytes l.options.include.items
    ++ map (λ folder. string_bytes folder.folder) (take l.folder-index l.options.include_packages.items)
