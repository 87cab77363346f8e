use Rattle.std.proofs.Common.{◌≡◌, take}
use Rattle.std.specs.List.{flat_map}
use Rattle.proto_visibility.specs.Tables.ImportTables.{number_in, absents_at}
use Rattle.proto_visibility.proofs.absent.all_absent.Given as goal

abbrev pub invariant-loop-number : goal.invariant-loop-number
invariant-loop-number l =
    l.places.items ≡ flat_map (absents_at l.files (number_in l.paths)) (take l.number-index l.reachable)
