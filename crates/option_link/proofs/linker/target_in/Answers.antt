use Rattle.std.proofs.Common.{◌≡◌, Some, sym, ◌∙◌, subst}
use Rattle.std.proofs.lemmas.Option.{none-some, same_Some}
use Rattle.option_link.specs.Contexts.{NamesIn}
use Rattle.option_link.specs.declared.contexts.Context.{Context}
use Rattle.option_link.specs.declared.place.DeclaredPlace.{DeclaredPlace}
use Rattle.option_link.proofs.LoopLemmas.{found_as, some_of}
use Rattle.option_link.proofs.linker.target_in.Goals as goal

pub target-requires-clause-clear : goal.target-requires-clause-clear
target-requires-clause-clear c = some_of _ _ _ c.in-Some.is c.requires.clear

pub returns-in-Some : goal.returns-in-Some
returns-in-Some c =
    let self = c.args.asked in
    let files = self.files.names.now in
    let known = self.files.known.now in
    let file = self.file in
    let text = self.text.now in
    let option = self.option.now in
    let name = c.args.name.now in
    let number = c.args.number in
    let context = c.args.context in
    let inner = c.in-Some.inner in
    found_as c.target.result ((at : DeclaredPlace) → NamesIn files known file text option number name inner at → ⊥)
    ((other : Context) (at : DeclaredPlace) → context ≡ Some other
    → NamesIn files known file text option number name other at → ⊥)
    (NamesIn files known file text option number name inner)
    (λ at. (other : Context) × (context ≡ Some other) × NamesIn files known file text option number name other at)
    (λ none other at same names. none at
    (subst (λ (it : Context). NamesIn files known file text option number name it at)
    (same_Some other inner (sym same ∙ c.in-Some.is)) names))
    (λ at names. (inner, c.in-Some.is, names)) c.target.ensures

pub returns-in-None : goal.returns-in-None
returns-in-None c = λ inner at same names. none-some inner (sym c.in-None.is ∙ same)
