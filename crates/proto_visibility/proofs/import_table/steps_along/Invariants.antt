use Rattle.std.proofs.Common.{◌≡◌, true, false, take}
use Rattle.std.specs.List.{filter_map}
use Rattle.proto_visibility.specs.Tables.ImportTables.{number_in, target}
use Rattle.proto_visibility.proofs.import_table.steps_along.Given as goal

abbrev pub invariant-loop-import : goal.invariant-loop-import
invariant-loop-import l =
    record {
      public : l.steps.public.items
          ≡ filter_map (target (number_in l.numbers) true) (take l.import-index l.imports);
      plain : l.steps.plain.items ≡ filter_map (target (number_in l.numbers) false) (take l.import-index l.imports);
    }
