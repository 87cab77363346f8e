use Rattle.std.proofs.Common.{take}
use Rattle.proto_visibility.specs.Tables.ImportTables.{HasStep, IsLedTo}
use Rattle.proto_visibility.specs.Tables.Rows.{IsWith}
use Rattle.proto_visibility.proofs.leading.add_each.Given as goal

abbrev pub invariant-loop-file : goal.invariant-loop-file
invariant-loop-file l =
    IsWith l.led.order.now l.fn.runs.items l.runs.items
    (IsLedTo (HasStep l.led.table.now) (take l.file-index l.files))
