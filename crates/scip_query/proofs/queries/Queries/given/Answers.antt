use Rattle.scip_query.proofs.queries.Queries.given.Goals as goal

pub returns-in-Help : goal.returns-in-Help
returns-in-Help c = rw c.in-Help.is c.some_text.ensures
