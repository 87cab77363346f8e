use Rattle.std.proofs.Common.{◌<◌, List, ℕ, length, sym, ◌∙◌, subst}
use Rattle.option_link.proofs.MemberLemmas.{filled_name}
use Rattle.option_link.proofs.naming.Asked.message_name.Goals as goal

pub returns-in_ok-name-in-Some-clause-named : goal.returns-in_ok-name-in-Some-clause-named
returns-in_ok-name-in-Some-clause-named c = (
  c.in-Some.declared.now,
  c.in-Some.ensures.stands,
  sym (c.in_ok-name-in-Some.ensures ∙ (c.in_ok-text-in-Some.ensures ∙ c.full_name.ensures)),
)

pub returns-in-None-clause-named : goal.returns-in-None-clause-named
returns-in-None-clause-named c = c.in-None.ensures.stands c.requires.0 c.requires.1.stands

pub returns-in_ok-name-in-Some-clause-some : goal.returns-in_ok-name-in-Some-clause-some
returns-in_ok-name-in-Some-clause-some c =
    let files = c.args.self.files.names.now in
    subst (λ (n : List ℕ). 0 < length n)
    (sym (c.in_ok-name-in-Some.ensures ∙ (c.in_ok-text-in-Some.ensures ∙ c.full_name.ensures)))
    (filled_name files c.linked.ensures.origins c.facts_are_filled.ensures.names c.args.message c.in-Some.declared.now
    c.in-Some.ensures.stands)
