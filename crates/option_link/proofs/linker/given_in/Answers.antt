use Rattle.std.proofs.Common.{◌≡◌, Some, None, MatchOption, sym, ◌∙◌, subst}
use Rattle.std.proofs.lemmas.Option.{none-some, same_Some}
use Rattle.option_link.specs.Contexts.{Leads, NamesIn}
use Rattle.option_link.specs.Tables.{IsClear}
use Rattle.option_link.specs.declared.contexts.Context.{Context}
use Rattle.option_link.specs.declared.place.DeclaredPlace.{DeclaredPlace}
use Rattle.option_link.proofs.LoopLemmas.{ok_as}
use Rattle.option_link.proofs.linker.given_in.Goals as goal

pub returns-in-Some-clause-gives : goal.returns-in-Some-clause-gives
returns-in-Some-clause-gives c =
    let self = c.args.asked in
    let files = self.files.names.now in
    let known = self.files.known.now in
    let file = self.file in
    let text = self.text.now in
    let option = self.option.now in
    let number = c.args.number in
    let name = c.args.name.now in
    let target = c.args.target in
    let outer = c.in-Some.outer in
    ok_as c.gives.result (λ found. MatchOption target
    ((at : DeclaredPlace) → NamesIn files known file text option number name outer at → ⊥)
    (NamesIn files known file text option number name outer)
    → MatchOption found ((inner : Context) → Leads files known file text option number name outer inner → ⊥)
    (λ inner. Leads files known file text option number name outer inner × IsClear files inner))
    (λ found. (other : Context) → c.args.context ≡ Some other → MatchOption target
    ((at : DeclaredPlace) → NamesIn files known file text option number name other at → ⊥)
    (NamesIn files known file text option number name other)
    → MatchOption found ((inner : Context) → Leads files known file text option number name other inner → ⊥)
    (λ inner. Leads files known file text option number name other inner × IsClear files inner))
    (λ found told other same. subst (λ (it : Context). MatchOption target
    ((at : DeclaredPlace) → NamesIn files known file text option number name it at → ⊥)
    (NamesIn files known file text option number name it)
    → MatchOption found ((inner : Context) → Leads files known file text option number name it inner → ⊥)
    (λ inner. Leads files known file text option number name it inner × IsClear files inner))
    (same_Some outer other (sym c.in-Some.is ∙ same)) told) c.gives.ensures

pub returns-in-Some-clause-none : goal.returns-in-Some-clause-none
returns-in-Some-clause-none c =
    ok_as c.gives.result _ (λ found. c.args.context ≡ None → found ≡ None)
    (λ found told none. absurd (none-some c.in-Some.outer (sym none ∙ c.in-Some.is))) c.gives.ensures

pub returns-in-None-clause-gives : goal.returns-in-None-clause-gives
returns-in-None-clause-gives c = λ outer same told. absurd (none-some outer (sym c.in-None.is ∙ same))
