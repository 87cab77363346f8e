use Rattle.std.proofs.Common.{◌≡◌, Some, sym, ◌∙◌, subst}
use Rattle.std.proofs.lemmas.Option.{none-some, same_Some}
use Rattle.option_link.specs.declared.contexts.Context.{Context}
use Rattle.option_link.specs.Found.{IsBehind}
use Rattle.option_link.proofs.LoopLemmas.{ok_as, some_of}
use Rattle.option_link.proofs.linker.behind_in.Goals as goal

pub behind-requires-clause-clear : goal.behind-requires-clause-clear
behind-requires-clause-clear c = some_of _ _ _ c.in-Some.is c.requires.clear

pub returns-in-Some : goal.returns-in-Some
returns-in-Some c =
    let self = c.args.asked in
    let files = self.files.names.now in
    let known = self.files.known.now in
    let name = c.args.name.now in
    let inner = c.in-Some.inner in
    ok_as c.behind.result (IsBehind files known self.file self.text.now self.option.now c.args.number name name.role
    inner)
    (λ behind. (other : Context) → c.args.context ≡ Some other
    → IsBehind files known self.file self.text.now self.option.now c.args.number name name.role other behind)
    (λ behind is other same. subst
    (λ (it : Context). IsBehind files known self.file self.text.now self.option.now c.args.number name name.role it
    behind)
    (same_Some inner other (sym c.in-Some.is ∙ same)) is) c.behind.ensures

pub returns-in-None : goal.returns-in-None
returns-in-None c = λ inner same. absurd (none-some inner (sym c.in-None.is ∙ same))
