use Rattle.std.proofs.Common.{◌+◌, get_or, refl, take, arith}
use Rattle.proto_visibility.specs.Sees.{LeadsTo}
use Rattle.proto_visibility.specs.Tables.ImportTables.{HasStep, IsLedTo}
use Rattle.proto_visibility.proofs.FileOrderLemmas.{with_both, with_none}
use Rattle.proto_visibility.proofs.LeadingLemmas.{led_from_none, led_next}
use Rattle.proto_visibility.proofs.leading.add_each.Goals as goal

pub loop-file-init : goal.loop-file-init
loop-file-init c =
    let steps = HasStep c.args.led.now.table.now in
    with_none c.args.led.now.order.now c.args.runs.now.items (IsLedTo steps (take 0 c.args.files.now))
    (led_from_none steps)

pub loop-file-preserved : goal.loop-file-preserved
loop-file-preserved c =
    let steps = HasStep c.args.led.now.table.now in
    let files = c.args.files.now in
    let index = c.loop-file.file-index in
    let next = get_or files index 0 in
    with_both c.args.led.now.order.now c.args.runs.now.items c.loop-file.runs.items c.add_led.new.runs.items
    (IsLedTo steps (take index files)) (LeadsTo steps next) (IsLedTo steps (take (index + 1) files))
    c.loop-file.invariant (c.in_ok-is_known.ensures c.if-not-is_known.false)
    (λ other. led_next steps files index next (omega arith) refl other)
