use Rattle.std.proofs.Common.{length, ap, sym, ◌∙◌, arith}
use Rattle.option_link.proofs.ExtensionLemmas.{inside_braces, outside_braces}
use Rattle.option_link.proofs.naming.Asked.scope_of.Goals as goal

pub returns-then-not-in_braces : goal.returns-then-not-in_braces
returns-then-not-in_braces c =
    outside_braces c.args.self.now.option.now c.args.number c.args.extended.now c.as_str.result.now
    (sym c.is_in_braces-in_braces.ensures ∙ c.if-not-in_braces.true) c.as_str.ensures

pub returns-in-Some : goal.returns-in-Some
returns-in-Some c =
    inside_braces c.args.self.now.option.now c.args.number c.args.extended.now c.in-Some.scope.now
    (sym c.is_in_braces-in_braces.ensures ∙ c.if-not-in_braces.false) c.in-Some.ensures.around

pub returns-in-None : goal.returns-in-None
returns-in-None c = absurd (omega (arith, c.requires, ap length c.in-None.ensures.around))
