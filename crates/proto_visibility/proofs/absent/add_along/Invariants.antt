use Rattle.std.proofs.Common.{◌≡◌, ◌++◌, take}
use Rattle.std.specs.List.{flat_map}
use Rattle.proto_visibility.specs.Tables.ImportTables.{number_in, absent_at}
use Rattle.proto_visibility.proofs.absent.add_along.Given as goal

abbrev pub invariant-loop-import : goal.invariant-loop-import
invariant-loop-import l =
    l.places.items ≡ l.fn.places.items
    ++ flat_map (absent_at (number_in l.paths) l.included l.number) (take l.import-index l.imports)
