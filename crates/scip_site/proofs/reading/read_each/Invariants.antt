use Rattle.streams.specs.Writers.{writing}
use Rattle.scip_site.specs.Reading.{AreKept}
use Rattle.scip_site.proofs.reading.read_each.Given as goal

-- the documents so far are read
abbrev pub invariant-loop-number : goal.invariant-loop-number
invariant-loop-number g l =
    AreKept (g.F.ReadFiles.gives l.files) l.root l.documents l.number l.sources.items
    (writing g.M.Sink l.fn.messages l.messages)
