use Rattle.std.proofs.Common.{sym, ◌∙◌}
use Rattle.std.proofs.lemmas.Option.{none-some}
use Rattle.option_link.proofs.LoopLemmas.{fails, never_so}
use Rattle.option_link.proofs.RootLemmas.{not_plain, word_iff}
use Rattle.option_link.proofs.naming.Asked.is_one_word.Goals as goal

pub returns-then-parts-ne1 : goal.returns-then-parts-ne1
returns-then-parts-ne1 c = never_so _ (λ one. c.if-parts-ne1.true one.one_part)

pub returns-then-not-is_as : goal.returns-then-not-is_as
returns-then-not-is_as c =
    never_so _ (not_plain c.args.self.text.now c.args.word.now c.args.self.option.now c.in-Some.name.now
    c.in-Some.ensures (fails c.is_as.result _ c.is_as.ensures c.if-not-is_as.true))

pub returns-else-not-is_as : goal.returns-else-not-is_as
returns-else-not-is_as c =
    word_iff c.args.self.text.now c.args.word.now c.args.self.option.now c.in-Some.name.now c.in-Some.ensures
    c.is_word.result c.if-parts-ne1.false (c.is_as.ensures.0 c.if-not-is_as.false) c.is_word.ensures

pub returns-in-None : goal.returns-in-None
returns-in-None c = never_so _ (λ one. none-some one.name (sym c.in-None.ensures ∙ one.first))
