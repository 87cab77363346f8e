use Rattle.std.proofs.Common.{◌≡◌, take}
use Rattle.std.specs.List.{filter}
use Rattle.proto_visibility.specs.Tables.ImportTables.{is_other_at}
use Rattle.proto_visibility.proofs.omissions.others_among.Given as goal

abbrev pub invariant-loop-number : goal.invariant-loop-number
invariant-loop-number l = l.others.items ≡ filter (is_other_at l.files) (take l.number-index l.numbers)
