use Rattle.std.proofs.Common.{◌≡◌, map, take, string_bytes}
use Rattle.source_tree.specs.Files.{paths_of}
use Rattle.source_files.proofs.folders.paths_of.Given as goal

abbrev pub invariant-loop-file : goal.invariant-loop-file
invariant-loop-file l = map string_bytes l.paths.items ≡ paths_of (take l.file-index l.files)
