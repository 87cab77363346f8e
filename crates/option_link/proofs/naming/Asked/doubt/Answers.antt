use Rattle.option_link.specs.Uncertain.{IsLookedUpFarther}
use Rattle.option_link.proofs.DoubtLemmas.{behind_if}
use Rattle.option_link.proofs.LoopLemmas.{none_of, some_of}
use Rattle.option_link.proofs.naming.Asked.doubt.Goals as goal

pub returns-in_ok-farther-in-Some : goal.returns-in_ok-farther-in-Some
returns-in_ok-farther-in-Some c =
    let self = c.args.self in
    let files = self.files.names.now in
    behind_if files self.file c.in-Some.behind
    (IsLookedUpFarther files self.file self.text.now self.option.now c.args.number c.args.name.now c.args.context)
    c.in_ok-farther-in-Some.farther c.in_ok-farther-in-Some.ensures (some_of _ _ _ c.in-Some.is c.requires.first)
    c.if_so.result c.if_so.ensures

pub returns-in-None : goal.returns-in-None
returns-in-None c =
    let none = none_of _ _ c.in-None.is c.requires.first in λ behind farther first. none behind first.unread first.sees
