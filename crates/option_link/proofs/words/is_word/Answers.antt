use Rattle.option_link.proofs.LoopLemmas.{never_so}
use Rattle.option_link.proofs.WordLemmas.{word_is}
use Rattle.option_link.proofs.words.is_word.Goals as goal

pub returns-in-Some : goal.returns-in-Some
returns-in-Some c =
    word_is c.args.text.now c.args.name.now c.in-Some.only.now c.args.word.now c.is_text.result c.is_text.ensures
    c.in-Some.ensures

pub returns-in-None : goal.returns-in-None
returns-in-None c = never_so _ (c.in-None.ensures c.args.word.now)
