use Rattle.streams.specs.Writers.{said, silent}
use Rattle.programs.proofs.well_known.say_if.Goals as goal

pub returns-then-holds : goal.returns-then-holds
returns-then-holds g c = rw c.if-holds.true (said c.say.ensures silent)

pub returns-else-holds : goal.returns-else-holds
returns-else-holds g c = rw c.if-holds.false silent
