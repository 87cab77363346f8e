use Rattle.std.proofs.Common.{map}
use Rattle.std.specs.String.{string_bytes}
use Rattle.programs.specs.Folders.{IsRootOf}
use Rattle.programs.proofs.folders.add_folder.Given as goal

-- the paths so far
abbrev pub invariant-loop-path : goal.invariant-loop-path
invariant-loop-path l = IsRootOf (record { id = l.fn.id; paths = map string_bytes l.yielded }) l.folder
