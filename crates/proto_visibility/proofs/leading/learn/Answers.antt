use Rattle.std.proofs.Common.{ℕ, List, Option, Some, length, set, sym, subst, arith}
use Rattle.proto_visibility.specs.Tables.Leading.{AreLed}
use Rattle.proto_visibility.proofs.LeadingLemmas.{one_led}
use Rattle.proto_visibility.proofs.leading.learn.Goals as goal

pub returns-clause-led : goal.returns-clause-led
returns-clause-led c =
    let table = c.args.led.now.table.now in
    let order = c.args.led.now.order.now in
    let indexes = c.args.led.now.indexes.items in
    let rows = c.args.led.now.rows.items in
    let more = set indexes c.args.file (Some (length rows)) in
    subst (λ (xs : List (Option ℕ)). AreLed table order xs c.keep.new.rows.items) (sym c.in_ok-keep.ensures.indexes)
    (subst (AreLed table order more) (sym c.in_ok-keep.ensures.rows)
    (one_led table order indexes rows c.in_ok-row.row c.args.file c.requires.led
    (omega (arith, c.requires.file, c.requires.led.one_each)) c.in_ok-row.ensures.led))
