use Rattle.std.proofs.Common.{◌↔◌, IsTrue, List, subst}
use Rattle.proto_lex.specs.declared.span.Span.{Span}
use Rattle.option_link.specs.declared.facts.OptionFacts.{OptionFacts}
use Rattle.option_link.specs.Said.{IsSaid, asked_for, saying}
use Rattle.option_link.proofs.LoopLemmas.{never_so}
use Rattle.option_link.proofs.SaidLemmas.{says_iff}
use Rattle.option_link.proofs.naming.Asked.says.Goals as goal

pub returns-in-Some : goal.returns-in-Some
returns-in-Some c =
    let self = c.args.self in
    let file = c.args.message.file in
    let clause = asked_for c.args.word in
    says_iff self.files.names.now self.files.known.now c.args.message clause c.in-Some.declared.now c.is_said.result
    c.in-Some.ensures.stands
    (subst (λ (name : Span). IsTrue c.is_said.result ↔ IsSaid self.files.known.now file (saying name clause))
    c.name.ensures
    (subst (λ (known : List OptionFacts). IsTrue c.is_said.result ↔ IsSaid known file (saying c.name.result clause))
    self.same_said c.is_said.ensures))

pub returns-in-None : goal.returns-in-None
returns-in-None c = never_so _ (λ x. c.in-None.ensures.stands x.declaration x.stands)
