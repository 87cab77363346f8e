use Rattle.streams.specs.Writers.{writing}
use Rattle.scip_site.specs.Showing.{ArePrinted}
use Rattle.scip_site.proofs.SnapshotShowLemmas.{Stands}
use Rattle.scip_site.proofs.printing.print_all.Given as goal

-- the documents so far are shown
abbrev pub invariant-loop-number : goal.invariant-loop-number
invariant-loop-number g l =
    Stands g.M.Sink (g.F.ReadFiles.gives l.files) l.root l.queries
    l.fn.messages l.messages (ArePrinted (writing g.W.Sink l.fn.out l.out)) l.number
