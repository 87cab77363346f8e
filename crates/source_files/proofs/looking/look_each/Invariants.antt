use Rattle.std.proofs.Common.{length, map, string_bytes}
use Rattle.source_files.specs.Looks.{GivesLooked}
use Rattle.source_files.proofs.LookLemmas.{AreLookedFar}
use Rattle.source_files.proofs.looking.look_each.Given as goal

-- what was looked for so far, and the paths that are left
abbrev pub invariant-loop-rest : goal.invariant-loop-rest
invariant-loop-rest g l =
    AreLookedFar (GivesLooked (g.F.ReadFiles.finds l.looking.files.now) (g.F.ReadFiles.gives l.looking.files.now)
    (g.I.FindImports.tells l.looking.finder.now) l.looking.leaves_out l.looking.is_wanted
    (map string_bytes l.looking.roots.now))
    (map string_bytes l.paths) (map string_bytes l.rest) l.all.items

abbrev pub decreases-loop-rest : goal.decreases-loop-rest
decreases-loop-rest g l = length l.rest
