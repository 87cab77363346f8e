use Rattle.std.proofs.Common.{not, ℕ, List, map}
use Rattle.std.specs.Borrow.{Bor}
use Rattle.scip_records.specs.declared.records.Occurrence.{Occurrence}
use Rattle.scip_pages.specs.Snapshot.{fits}
use Rattle.scip_pages.proofs.SnapshotLemmas.{position_is}
use Rattle.scip_pages.proofs.lines.misfit.Goals as goal

pub loop-number-init : goal.loop-number-init
loop-number-init c =
    position_is (λ (o : Occurrence). not (fits c.args.lines.now.unit
    (map (λ (t : Bor (List ℕ)). t.now) c.args.lines.now.lines) o))
    c.args.occurrences.now
