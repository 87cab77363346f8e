use Rattle.std.proofs.Common.{sym, ◌∙◌}
use Rattle.std.proofs.lemmas.Bool.{false≢true, leb-true}
use Rattle.option_link.proofs.ItemLemmas.{said_of}
use Rattle.option_link.proofs.LoopLemmas.{fails}
use Rattle.option_link.proofs.TargetNameLemmas.{braces_by}
use Rattle.option_link.proofs.naming.Asked.set_of.Goals as goal

pub returns-then-not-is_in_braces : goal.returns-then-not-is_in_braces
returns-then-not-is_in_braces c = λ set is.
    false≢true (sym c.if-not-is_in_braces.true
    ∙ (c.is_in_braces.ensures ∙ braces_by c.args.self.option.now c.args.number is.braces))

pub returns-then-not-says : goal.returns-then-not-says
returns-then-not-says c = λ set is.
    fails c.says.result _ c.says.ensures c.if-not-says.true
    (said_of c.args.self.files.names.now c.args.self.files.known.now c.args.self.option.now c.args.number c.args.context
    c.in-Some.message set c.in-Some.ensures is)

pub returns-else-not-says : goal.returns-else-not-says
returns-else-not-says c = record {
  is = c.in-Some.ensures;
  braces = leb-true c.args.self.option.now.setting.parts c.args.number
      (sym c.is_in_braces.ensures ∙ c.if-not-is_in_braces.false);
  says = c.says.ensures.0 c.if-not-says.false;
}

pub returns-in-None : goal.returns-in-None
returns-in-None c = λ set is. c.in-None.ensures set is.is
