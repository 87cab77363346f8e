use Rattle.std.proofs.Common.{map, string_bytes}
use Rattle.source_files.specs.Closures.{paths_in}
use Rattle.source_files.proofs.ReachedLemmas.{FarAt, rank}
use Rattle.source_files.proofs.closure.reach_each.Given as goal

-- what was found so far, and what is to be looked for
abbrev pub invariant-loop-known : goal.invariant-loop-known
invariant-loop-known g l =
    FarAt (g.F.ReadFiles.finds l.looking.files.now) (g.F.ReadFiles.gives l.looking.files.now)
    (g.I.FindImports.tells l.looking.finder.now) l.looking.leaves_out l.links_options (map string_bytes l.looking.roots.now) l.sources
    (paths_in l.fn.known) (paths_in l.known) l.all (map string_bytes l.fresh.items)

abbrev pub decreases-loop-known : goal.decreases-loop-known
decreases-loop-known g l = rank l.all.found (map string_bytes l.fresh.items)
