use Rattle.std.specs.Prelude.{⊤}
use Rattle.std.proofs.Common.{◌≡◌, ℕ, Some, sym, ◌∙◌, subst}
use Rattle.std.proofs.lemmas.Option.{none-some, same_Some}
use Rattle.option_link.specs.Contexts.{NamesIn}
use Rattle.option_link.specs.Doubts.{IsDoubtHere, IsDoubtOf}
use Rattle.option_link.specs.declared.contexts.Context.{Context}
use Rattle.option_link.proofs.LoopLemmas.{found_as, option_as, some_of}
use Rattle.option_link.proofs.linker.doubt_in.Goals as goal

pub doubt_named-requires-clause-clear : goal.doubt_named-requires-clause-clear
doubt_named-requires-clause-clear c = some_of _ _ _ c.in-Some.is c.requires.clear

pub doubt_named-requires-clause-named : goal.doubt_named-requires-clause-named
doubt_named-requires-clause-named c =
    let self = c.args.asked in
    let files = self.files.names.now in
    let known = self.files.known.now in
    let number = c.args.number in
    let name = c.args.name.now in
    let inner = c.in-Some.inner in
    option_as c.args.target ⊤ ⊤ (λ at. (one : Context) × (c.args.context ≡ Some one)
    × NamesIn files known self.file self.text.now self.option.now number name one at)
    (NamesIn files known self.file self.text.now self.option.now number name inner) (λ t. t)
    (λ at its. subst (λ (one : Context). NamesIn files known self.file self.text.now self.option.now number name one at)
    (same_Some its.0 inner (sym its.1 ∙ c.in-Some.is)) its.2) c.requires.named

pub returns-in-Some : goal.returns-in-Some
returns-in-Some c =
    let self = c.args.asked in
    let files = self.files.names.now in
    let file = self.file in
    let text = self.text.now in
    let option = self.option.now in
    let number = c.args.number in
    let name = c.args.name.now in
    let inner = c.in-Some.inner in
    let target = c.args.target in
    found_as c.doubt_named.result
    ((behind : ℕ) → IsDoubtOf files file text option number name inner target behind → ⊥)
    ((behind : ℕ) → IsDoubtHere files file text option number name c.args.context target behind → ⊥)
    (IsDoubtOf files file text option number name inner target)
    (IsDoubtHere files file text option number name c.args.context target)
    (λ none behind here. none behind
    (subst (λ (one : Context). IsDoubtOf files file text option number name one target behind)
    (same_Some here.inner inner (sym here.in_context ∙ c.in-Some.is)) here.is))
    (λ behind is. record { inner = inner; in_context = c.in-Some.is; is = is }) c.doubt_named.ensures

pub returns-in-None : goal.returns-in-None
returns-in-None c = λ behind here. none-some here.inner (sym c.in-None.is ∙ here.in_context)
