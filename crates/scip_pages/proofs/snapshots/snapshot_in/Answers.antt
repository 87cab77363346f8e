use Rattle.std.proofs.Common.{◌∙◌, ap, ℕ, List, map}
use Rattle.std.specs.Prelude.{Some}
use Rattle.std.specs.Borrow.{Bor}
use Rattle.scip_query.specs.BySymbol.{entry_in}
use Rattle.scip_pages.specs.Snapshot.{in_unit}
use Rattle.scip_pages.proofs.SnapshotLemmas.{gives_same}
use Rattle.scip_pages.proofs.snapshots.snapshot_in.Goals as goal

pub returns : goal.returns
returns c =
    gives_same _ c.snapshot_of_lines.result _ _
    (ap (in_unit (Some c.args.shown.now.unit)
    (entry_in c.args.shown.now.queries.now c.args.shown.now.number) c.args.occurrences.now)
    (ap (map (λ (line : Bor (List ℕ)). line.now)) (c.in_ok-lines.ensures.lines ∙ c.as_slice.ensures.value)
    ∙ c.in_ok-texts.ensures))
    c.snapshot_of_lines.ensures.gives
