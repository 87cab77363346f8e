use Rattle.std.proofs.Common.{◌∙◌, sym, ap}
use Rattle.std.specs.Prelude.{Some}
use Rattle.scip_query.specs.BySymbol.{entry_in}
use Rattle.scip_pages.specs.Snapshot.{in_unit, lines_of}
use Rattle.scip_pages.proofs.SnapshotLemmas.{gives_same}
use Rattle.scip_pages.proofs.snapshots.snapshot_for.Goals as goal

pub returns-in-Some : goal.returns-in-Some
returns-in-Some c =
    let entries = entry_in c.args.queries.now c.args.number in
    let lines = lines_of c.args.source.now in
    gives_same _ c.snapshot_in.result _ _
    (ap (λ os. in_unit (Some c.in-Some.unit) entries os lines) c.as_slice.ensures
    ∙ ap (λ u. in_unit u entries c.args.document.now.occurrences lines) (sym c.in-Some.is ∙ c.unit_in.ensures))
    c.snapshot_in.ensures
