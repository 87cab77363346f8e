use Rattle.std.proofs.Common.{sym, ◌∙◌, subst}
use Rattle.std.proofs.lemmas.Bool.{leb-true, false≢true}
use Rattle.option_link.specs.Contexts.{IsReserved}
use Rattle.option_link.specs.Said.{Reserves}
use Rattle.option_link.proofs.LoopLemmas.{fails, iff_as, never_so}
use Rattle.option_link.proofs.NameLemmas.{one_word}
use Rattle.option_link.proofs.TargetNameLemmas.{braces_by}
use Rattle.option_link.proofs.naming.Asked.is_reserved.Goals as goal

pub returns-then-not-is_as : goal.returns-then-not-is_as
returns-then-not-is_as c = never_so _ (λ x. fails c.is_as.result _ c.is_as.ensures c.if-not-is_as.true x.plain)

pub returns-then-not-is_in_braces : goal.returns-then-not-is_in_braces
returns-then-not-is_in_braces c =
    let self = c.args.self in
    never_so _ (λ x. false≢true (sym c.if-not-is_in_braces.true
    ∙ (c.is_in_braces.ensures ∙ braces_by self.option.now c.args.number x.braces)))

pub returns-in-Some : goal.returns-in-Some
returns-in-Some c =
    let self = c.args.self in
    let files = self.files.names.now in
    let known = self.files.known.now in
    let text = self.text.now in
    let option = self.option.now in
    let number = c.args.number in
    let name = c.args.name.now in
    let message = c.args.message in
    let word = c.in-Some.word.now in
    iff_as c.says.result (Reserves files known message word)
    (IsReserved files known text option number name message)
    (λ reserves. record {
      plain = c.is_as.ensures.0 c.if-not-is_as.false;
      braces = leb-true option.setting.parts number (sym c.is_in_braces.ensures ∙ c.if-not-is_in_braces.false);
      word = word;
      is = c.in-Some.ensures;
      reserves = reserves;
    })
    (λ x. subst (Reserves files known message) (one_word text name x.word word x.is c.in-Some.ensures) x.reserves)
    c.says.ensures

pub returns-in-None : goal.returns-in-None
returns-in-None c = never_so _ (λ x. c.in-None.ensures x.word x.is)
