use Rattle.std.proofs.Common.{map, take, string_bytes}
use Rattle.source_files.proofs.LoadLemmas.{AreEach}
use Rattle.source_files.proofs.load.read_roots.Given as goal

abbrev pub invariant-loop-root : goal.invariant-loop-root
invariant-loop-root g l =
    AreEach (g.F.ReadFiles.lists l.readers.files.now) (g.F.ReadFiles.gives l.readers.files.now) l.readers.leaves_out
    (map string_bytes (take l.root-index l.roots)) l.each.items
