use Rattle.proto_visibility.specs.Sees.{SeesBy}
use Rattle.proto_visibility.specs.Tables.ImportTables.{HasStep}
use Rattle.proto_visibility.proofs.FileOrderLemmas.{with_all}
use Rattle.proto_visibility.proofs.leading.seen_by_steps.Goals as goal

pub returns : goal.returns
returns c =
    with_all c.args.led.now.order.now c.new-runs.result.items c.add_seen.new.runs.items c.in_ok-row.row
    (SeesBy (HasStep c.args.led.now.table.now) c.args.file) c.new-runs.ensures.items
    (c.in_ok-is_known.ensures c.if-not-is_known.false) c.in_ok-row.ensures
