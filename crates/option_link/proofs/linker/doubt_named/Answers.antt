use Rattle.std.proofs.Common.{ℕ, sym, ◌∙◌}
use Rattle.std.proofs.lemmas.Option.{none-some}
use Rattle.proto_link.specs.Uncertain.{IsFirstUnread}
use Rattle.option_link.specs.Uncertain.{IsLookedUpFarther}
use Rattle.option_link.specs.Doubts.{IsDoubtOf}
use Rattle.option_link.proofs.LoopLemmas.{found_as, some_of}
use Rattle.option_link.proofs.linker.doubt_named.Goals as goal

pub doubt-requires-clause-named : goal.doubt-requires-clause-named
doubt-requires-clause-named c = (c.in-Some._place, some_of _ _ _ c.in-Some.is c.requires.named)

pub returns-in-Some : goal.returns-in-Some
returns-in-Some c =
    let self = c.args.asked in
    let files = self.files.names.now in
    let file = self.file in
    let text = self.text.now in
    let option = self.option.now in
    let number = c.args.number in
    let name = c.args.name.now in
    let inner = c.args.inner in
    found_as c.doubt.result ((behind : ℕ) → IsLookedUpFarther files file text option number name inner
    → IsFirstUnread files file behind → ⊥)
    ((behind : ℕ) → IsDoubtOf files file text option number name inner c.args.target behind → ⊥)
    (λ behind. IsLookedUpFarther files file text option number name inner × IsFirstUnread files file behind)
    (IsDoubtOf files file text option number name inner c.args.target)
    (λ none behind is. none behind is.farther is.first)
    (λ behind its. record { at = c.in-Some._place; is_target = c.in-Some.is; farther = its.0; first = its.1 })
    c.doubt.ensures

pub returns-in-None : goal.returns-in-None
returns-in-None c = λ behind is. none-some is.at (sym c.in-None.is ∙ is.is_target)
