use Rattle.std.proofs.Common.{map, take}
use Rattle.scip_query.specs.CommandViews.{text_of}
use Rattle.scip_site.specs.Sources.{AreSourcesOf}
use Rattle.scip_site.proofs.sources.sources_of.Given as goal

-- those of the paths so far
abbrev pub invariant-loop-path : goal.invariant-loop-path
invariant-loop-path g l =
    AreSourcesOf (g.F.ReadFiles.gives l.files) l.root l.queries (map text_of (take l.path-index l.paths)) l.sources.items
