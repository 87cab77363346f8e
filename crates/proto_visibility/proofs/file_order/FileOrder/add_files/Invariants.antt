use Rattle.std.proofs.Common.{take}
use Rattle.std.specs.List.{Contains}
use Rattle.proto_visibility.specs.Tables.Rows.{IsWith}
use Rattle.proto_visibility.proofs.file_order.FileOrder.add_files.Given as goal

abbrev pub invariant-loop-number : goal.invariant-loop-number
invariant-loop-number l = IsWith l.self l.fn.runs.items l.runs.items (Contains (take l.number-index l.numbers))
