use Rattle.std.proofs.Common.{◌≡◌, ◌∷◌, [], ℕ, List, ap, sym, ◌∙◌, subst}
use Rattle.proto_visibility.specs.Tables.ImportTables.{HasStep, IsLedTo}
use Rattle.proto_visibility.specs.Tables.Visits.{Found, visit}
use Rattle.proto_visibility.proofs.LeadingLemmas.{led_from_one}
use Rattle.proto_visibility.proofs.leading.led_by_search.Goals as goal

pub returns-clause-led : goal.returns-clause-led
returns-clause-led c = λ other.
    let imports = HasStep c.args.led.now.table.now in
    let file = c.args.file in
    let one : c.visit.new.self.numbers ≡ file ∷ [] =
    ap (λ (f : Found). f.numbers) c.in_ok-visit.ensures
    ∙ ap (λ (f : Found). visit f.numbers file) c.start.ensures in
    let row = c.in_ok-row.ensures other in
    let led = c.in_ok-follow_from.ensures.led other in
    let from = led_from_one imports file other in (
      λ there. from.0 (subst (λ (xs : List ℕ). IsLedTo imports xs other) one (led.0 (row.0 there))),
      λ leads. row.1 (led.1 (subst (λ (xs : List ℕ). IsLedTo imports xs other) (sym one) (from.1 leads))),
    )
