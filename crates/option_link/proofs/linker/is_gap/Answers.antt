use Rattle.std.proofs.Common.{◌≡◌, None, sym, ◌∙◌, not}
use Rattle.std.proofs.lemmas.Option.{none-some}
use Rattle.option_link.specs.OptionNames.{NeedsNoTarget}
use Rattle.option_link.proofs.LoopLemmas.{iff_as, never_so, not_so}
use Rattle.option_link.proofs.linker.is_gap.Goals as goal

pub returns-in-Some : goal.returns-in-Some
returns-in-Some c = λ told. never_so _ (λ its. none-some c.in-Some._place (sym its.0 ∙ c.in-Some.is))

pub returns-in_ok-needs_none-in-None : goal.returns-in_ok-needs_none-in-None
returns-in_ok-needs_none-in-None c =
    let self = c.args.asked in
    let files = self.files.names.now in
    let known = self.files.known.now in
    let file = self.file in
    let text = self.text.now in
    let option = self.option.now in
    let number = c.args.number in
    let name = c.args.name.now in
    let needs = c.in_ok-needs_none-in-None.needs_none in
    λ told. iff_as (not needs) (NeedsNoTarget files known file text option number name → ⊥)
    ((c.args.target ≡ None) × (NeedsNoTarget files known file text option number name → ⊥))
    (λ lacks. (c.in-None.is, lacks)) (λ its. its.1)
    (not_so needs (NeedsNoTarget files known file text option number name)
    (c.in_ok-needs_none-in-None.ensures told))
