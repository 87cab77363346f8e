use Rattle.std.proofs.Common.{◌≡◌, Some, length}
use Rattle.std.specs.List.{slice_get}
use Rattle.option_link.specs.declared.contexts.Context.{Context}
use Rattle.option_link.specs.Contexts.{StandsIn}
use Rattle.option_link.specs.Tables.{IsClear}
use Rattle.option_link.proofs.LoopLemmas.{option_as}
use Rattle.option_link.proofs.RootLemmas.{root_clear, stands_first, stands_further, stands_nowhere}
use Rattle.option_link.proofs.naming.Asked.context_of.Goals as goal

pub returns-in-None : goal.returns-in-None
returns-in-None c =
    let self = c.args.self in
    let root = c.root.result in (
      stands_first self.files.names.now self.files.known.now self.file self.text.now self.option.now c.args.given.now
          c.args.name.now c.requires.numbered c.in-None.is root c.root.ensures,
      root_clear self.files.names.now self.files.known.now self.file self.text.now self.option.now c.args.given.now
          c.args.name.now c.requires.numbered root c.root.ensures,
    )

pub returns-in-Some : goal.returns-in-Some
returns-in-Some c =
    let self = c.args.self in
    let files = self.files.names.now in
    let known = self.files.known.now in
    let text = self.text.now in
    let option = self.option.now in
    let given = c.args.given.now in
    let name = c.args.name.now in
    let before = c.in-Some.before in
    option_as c.given_at.result ((context : Context) → slice_get given before ≡ Some (Some context) → ⊥)
    ((context : Context) → StandsIn files known self.file text option (length given) context → ⊥)
    (λ context. slice_get given before ≡ Some (Some context))
    (λ context. StandsIn files known self.file text option (length given) context × IsClear files context)
    (λ none. stands_nowhere files known self.file text option given name c.requires.numbered c.requires.given before
    c.in-Some.is none)
    (λ context at. stands_further files known self.file text option given name c.requires.numbered c.requires.given
    before c.in-Some.is context at) c.given_at.ensures
