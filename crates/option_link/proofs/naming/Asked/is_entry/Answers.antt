use Rattle.std.proofs.Common.{◌∷◌, [], inl, refl}
use Rattle.std.specs.Prelude.{codes}
use Rattle.option_link.specs.Contexts.{HasWords}
use Rattle.option_link.proofs.LoopLemmas.{always_so, fails, never_so}
use Rattle.option_link.proofs.NoneInLemmas.{value_entry}
use Rattle.option_link.proofs.naming.Asked.is_entry.Goals as goal

pub returns-then-not-is_as : goal.returns-then-not-is_as
returns-then-not-is_as c = never_so _ (λ is. fails c.is_as.result _ c.is_as.ensures c.if-not-is_as.true is.plain)

pub returns-then-is_word : goal.returns-then-is_word
returns-then-is_word c = always_so _ (record {
  plain = c.is_as.ensures.0 c.if-not-is_as.false;
  word = codes "key";
  is = c.is_word.ensures.0 c.if-is_word.true;
  which = inl refl;
})

pub returns : goal.returns
returns c =
    let text = c.args.self.text.now in
    let name = c.args.name.now in
    value_entry text name (c.is_as.ensures.0 c.if-not-is_as.false)
    (fails c.is_word.result (HasWords text name (codes "key" ∷ [])) c.is_word.ensures c.if-is_word.false)
    c.is_word-2.result c.is_word-2.ensures
