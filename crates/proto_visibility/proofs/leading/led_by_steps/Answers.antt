use Rattle.std.proofs.Common.{◌≡◌, ◌↔◌, ◌⊎◌, ℕ, List, Some, length, refl, ap, sym, ◌∙◌, subst}
use Rattle.std.specs.List.{slice_get}
use Rattle.std.proofs.lemmas.Option.{slice_get_read}
use Rattle.proto_visibility.specs.Sees.{LeadsTo}
use Rattle.proto_visibility.specs.Tables.ImportTables.{HasStep, IsLedTo}
use Rattle.proto_visibility.proofs.FileOrderLemmas.{with_all, with_both}
use Rattle.proto_visibility.proofs.LeadingLemmas.{led_by}
use Rattle.proto_visibility.proofs.leading.led_by_steps.Goals as goal

pub returns : goal.returns
returns c =
    let table = c.args.led.now.table.now in
    let order = c.args.led.now.order.now in
    let imports = HasStep table in
    let file = c.args.file in
    let steps = c.index-led-file.result in
    let stands : slice_get table file ≡ Some steps =
    slice_get_read table (length table) file steps refl c.requires.file c.index-led-file.is in
    let public : c.as_slice.result.now ≡ steps.public.items =
    c.as_slice.ensures.value ∙ ap (λ s. s.public.items) (sym c.index-led-file.is) in
    with_all order c.new-runs.result.items c.add_each.new.runs.items c.in_ok-row.row (LeadsTo imports file)
    c.new-runs.ensures.items
    (with_both order c.new-runs.result.items c.add_file.new.runs.items c.add_each.new.runs.items
    (λ other. other ≡ file) (IsLedTo imports c.as_slice.result.now) (LeadsTo imports file)
    c.in_ok-add_file.ensures (c.in_ok-is_known.ensures c.if-not-is_known.false)
    (λ other. subst (λ (xs : List ℕ). LeadsTo imports file other ↔ ((other ≡ file) ⊎ IsLedTo imports xs other))
    (sym public) (led_by table file steps stands other))) c.in_ok-row.ensures
