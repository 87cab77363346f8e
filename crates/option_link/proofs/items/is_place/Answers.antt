use Rattle.std.proofs.Common.{sym, ◌∙◌}
use Rattle.std.proofs.lemmas.Option.{none-some}
use Rattle.option_link.proofs.ItemLemmas.{some_iff}
use Rattle.option_link.proofs.LoopLemmas.{never_so}
use Rattle.option_link.proofs.items.is_place.Goals as goal

pub returns-in-Some : goal.returns-in-Some
returns-in-Some c = some_iff c.args.found c.in-Some.one c.args.place c.is_same.result c.in-Some.is c.is_same.ensures

pub returns-in-None : goal.returns-in-None
returns-in-None c = never_so _ (λ is. none-some c.args.place (sym c.in-None.is ∙ is))
