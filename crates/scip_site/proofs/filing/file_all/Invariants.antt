use Rattle.source_files.specs.Makers.{making}
use Rattle.scip_site.specs.Showing.{AreFiled}
use Rattle.scip_site.proofs.SnapshotShowLemmas.{Stands}
use Rattle.scip_site.proofs.filing.file_all.Given as goal

-- the documents so far are shown
abbrev pub invariant-loop-number : goal.invariant-loop-number
invariant-loop-number g l =
    Stands g.M.Sink (g.F.ReadFiles.gives l.files) l.folders.root.now l.queries
    l.fn.messages l.messages (AreFiled (making g.O.MakeFiles l.fn.made l.made) l.folders.to.now) l.number
