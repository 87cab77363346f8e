use Rattle.option_link.proofs.LoopLemmas.{never_so}
use Rattle.option_link.proofs.RootLemmas.{taken_iff}
use Rattle.option_link.proofs.naming.Asked.is_taken.Goals as goal

pub returns-in-Some : goal.returns-in-Some
returns-in-Some c =
    taken_iff c.args.self.text.now c.args.word.now c.args.self.option.now c.in-Some._field c.is_one_word.result
    c.in-Some.ensures c.is_one_word.ensures

pub returns-in-None : goal.returns-in-None
returns-in-None c = never_so _ (λ taken. c.in-None.ensures taken.0 taken.1.of_field)
