use Rattle.std.proofs.Common.{◌≡◌, take}
use Rattle.std.specs.List.{filter}
use Rattle.proto_visibility.specs.Tables.ImportTables.{is_present_at}
use Rattle.proto_visibility.proofs.seeing.present_among.Given as goal

abbrev pub invariant-loop-number : goal.invariant-loop-number
invariant-loop-number l = l.present.items ≡ filter (is_present_at l.files) (take l.number-index l.numbers)
