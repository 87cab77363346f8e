use Rattle.std.proofs.Common.{◌≡◌, ◌↔◌, ◌⊎◌, ℕ, List, Some, length, refl, ap, sym, ◌∙◌, subst}
use Rattle.std.specs.List.{slice_get}
use Rattle.std.proofs.lemmas.Option.{slice_get_read}
use Rattle.std.proofs.lemmas.Result.{IfOk-weaker}
use Rattle.proto_visibility.specs.Sees.{LeadsTo, SeesBy}
use Rattle.proto_visibility.specs.Tables.ImportTables.{HasStep, IsLedTo}
use Rattle.proto_visibility.proofs.FileOrderLemmas.{with_both}
use Rattle.proto_visibility.proofs.LeadingLemmas.{seen_by}
use Rattle.proto_visibility.proofs.leading.add_seen.Goals as goal

pub returns : goal.returns
returns c =
    let table = c.args.led.now.table.now in
    let order = c.args.led.now.order.now in
    let imports = HasStep table in
    let file = c.args.file in
    let steps = c.index-led-file.result in
    let stands : slice_get table file ≡ Some steps =
    slice_get_read table (length table) file steps refl c.requires.file c.index-led-file.is in
    let plain : c.as_slice.result.now ≡ steps.plain.items =
    c.as_slice.ensures.value ∙ ap (λ s. s.plain.items) (sym c.index-led-file.is) in
    IfOk-weaker c.add_each.result _ _ (λ known are is.
    with_both order c.args.runs.now.items c.add_led.new.runs.items c.add_each.new.runs.items
    (LeadsTo imports file) (IsLedTo imports c.as_slice.result.now) (SeesBy imports file)
    (c.in_ok-is_known.ensures c.if-not-is_known.false) (are is)
    (λ other. subst (λ (xs : List ℕ). SeesBy imports file other
    ↔ (LeadsTo imports file other ⊎ IsLedTo imports xs other))
    (sym plain) (seen_by table file steps stands other))) c.add_each.ensures
