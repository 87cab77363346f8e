-- A name that doesn't begin with the scope isn't under it.
use Rattle.index_hooks.proofs.NameLemmas.{not_under}
use Rattle.index_hooks.proofs.names.is_under.Goals as goal

pub returns-in-None : goal.returns-in-None
returns-in-None c = (
  (λ t. cc),
  (λ under. absurd (not_under c.args.scope.now c.args.name.now c.in-None.ensures.cases under)),
)
