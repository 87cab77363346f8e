use Rattle.std.proofs.Common.{Some, ap, sym, ◌∙◌}
use Rattle.std.proofs.lemmas.Option.{same_Some}
use Rattle.option_link.proofs.LoopLemmas.{fails}
use Rattle.option_link.proofs.searches.if_same.Goals as goal

pub returns-then-not-is_same : goal.returns-then-not-is_same
returns-then-not-is_same c = λ is.
    fails c.is_same.result _ c.is_same.ensures c.if-not-is_same.true
    (same_Some c.in-Some.one c.args.place (sym c.in-Some.is ∙ is))

pub returns-else-not-is_same : goal.returns-else-not-is_same
returns-else-not-is_same c =
    let same = c.is_same.ensures.0 c.if-not-is_same.false in (same, c.in-Some.is ∙ ap Some same)
