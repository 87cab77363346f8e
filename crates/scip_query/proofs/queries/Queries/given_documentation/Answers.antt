use Rattle.std.proofs.Common.{ap, sym}
use Rattle.scip_query.specs.Answers.{Texts, given}
use Rattle.scip_query.proofs.queries.Queries.given_documentation.Goals as goal

pub returns-in-Ok : goal.returns-in-Ok
returns-in-Ok c = ap (given Texts) (sym c.in-Ok.ensures)
