use Rattle.std.proofs.Common.{true, false, arith}
use Rattle.proto_visibility.specs.Tables.ImportTables.{number_in, target}
use Rattle.proto_visibility.proofs.ImportTableLemmas.{filter_map_step}
use Rattle.proto_visibility.proofs.import_table.steps_along.Goals as goal

pub loop-import-preserved : goal.loop-import-preserved
loop-import-preserved c = record {
  public = filter_map_step
      (target (number_in c.args.numbers.now) true) c.args.imports.now c.loop-import.import-index c.import-item.result
      c.loop-import.steps.public.items c.add_import.new.self.public.items
      (omega arith) c.import-item.is c.loop-import.invariant.public c.in_ok-add_import.ensures.public;
  plain = filter_map_step (target (number_in c.args.numbers.now) false) c.args.imports.now c.loop-import.import-index
      c.import-item.result c.loop-import.steps.plain.items c.add_import.new.self.plain.items
      (omega arith) c.import-item.is c.loop-import.invariant.plain c.in_ok-add_import.ensures.plain;
}
