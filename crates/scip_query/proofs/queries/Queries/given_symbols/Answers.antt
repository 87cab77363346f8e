use Rattle.std.proofs.Common.{ap, sym}
use Rattle.scip_query.specs.Answers.{Entries, given}
use Rattle.scip_query.proofs.queries.Queries.given_symbols.Goals as goal

pub returns-in-Ok : goal.returns-in-Ok
returns-in-Ok c = ap (given Entries) (sym c.in-Ok.ensures)
