use Rattle.std.proofs.Common.{ap, sym}
use Rattle.scip_query.specs.Answers.{Outlines, given}
use Rattle.scip_query.proofs.queries.Queries.given_outline.Goals as goal

pub returns-in-Ok : goal.returns-in-Ok
returns-in-Ok c = ap (given Outlines) (sym c.in-Ok.ensures)
