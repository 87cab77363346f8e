use Rattle.std.proofs.Common.{ℕ, List, sym, subst}
use Rattle.proto_visibility.specs.Sees.{LeadsTo}
use Rattle.proto_visibility.specs.Tables.ImportTables.{HasStep}
use Rattle.proto_visibility.specs.Tables.Leading.{IsLed}
use Rattle.proto_visibility.proofs.FileOrderLemmas.{with_runs}
use Rattle.proto_visibility.proofs.leading.add_led.Goals as goal

pub returns-in_ok-extend_from_slice-in-Some : goal.returns-in_ok-extend_from_slice-in-Some
returns-in_ok-extend_from_slice-in-Some c = λ known.
    let table = c.args.led.now.table.now in
    let order = c.args.led.now.order.now in
    with_runs order c.args.runs.now.items c.as_slice.result.now c.extend_from_slice.new.self.items
    (LeadsTo (HasStep table) c.args.file) c.in_ok-extend_from_slice-in-Some.ensures.items c.as_slice.ensures.whole
    (subst (λ (places : List ℕ). IsLed table order places c.args.file) (sym c.as_slice.ensures.numbers)
    c.in-Some.ensures)
