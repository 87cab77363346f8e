use Rattle.std.proofs.Common.{◌∙◌}
use Rattle.programs.proofs.starting.start.Goals as goal

pub returns-clause-only : goal.returns-clause-only
returns-clause-only g c = c.in_ok-choices.ensures.only ∙ c.only_of.ensures
