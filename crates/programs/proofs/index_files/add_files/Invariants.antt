-- What is kept is that of the files so far.
use Rattle.std.proofs.Common.{map, take, string_bytes}
use Rattle.programs.specs.IndexFiles.{AreGathered}
use Rattle.programs.proofs.index_files.add_files.Given as goal

abbrev pub invariant-loop-number : goal.invariant-loop-number
invariant-loop-number g l =
    AreGathered (g.F.ReadFiles.gives l.files) l.fn.choices (map string_bytes (take l.number l.paths)) l.join
