use Rattle.index_hooks.proofs.OneChoiceLemmas.{one_choice}
use Rattle.index_hooks.proofs.laws.one_choice.Goals as goal

pub returns : goal.returns
returns g c seen = one_choice _ _ c.args.registry.now.filters c.args.registry.now.rules
