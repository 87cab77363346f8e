use Rattle.option_link.proofs.LoopLemmas.{beyond}
use Rattle.option_link.proofs.linker.find_next.Goals as goal

pub find_named-requires-clause-numbered : goal.find_named-requires-clause-numbered
find_named-requires-clause-numbered c = c.in-Some.ensures

pub returns-in-None : goal.returns-in-None
returns-in-None c =
    absurd (beyond c.args.asked.option.now.setting.names c.args.number c.requires.within c.in-None.ensures)
