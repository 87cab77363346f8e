use Rattle.std.proofs.Common.{◌≡◌, length}
use Rattle.proto_visibility.specs.Tables.Leading.{AreLed}
use Rattle.proto_visibility.proofs.leading.led_files.Given as goal

abbrev pub invariant-loop-file : goal.invariant-loop-file
invariant-loop-file l = record {
  files : l.search.files ≡ length l.table;
  table : l.led.table.now ≡ l.table;
  order : l.led.order.now ≡ l.order;
  led : AreLed l.led.table.now l.led.order.now l.led.indexes.items l.led.rows.items;
}
