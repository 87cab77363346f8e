use Rattle.std.proofs.Common.{sym, ◌∙◌, arith}
use Rattle.scip_query.proofs.FrontLemmas.{ends_none, ends_some, first_is_defined}
use Rattle.scip_query.proofs.outline.is_first.Goals as goal

pub returns-in-empty : goal.returns-in-empty
returns-in-empty c = λ d symbol begun inside.
    sym (ends_none c.args.end c.args.run.now (omega arith)) ∙ first_is_defined d symbol c.args.end c.args.run.now begun inside

pub returns-in-len1-up : goal.returns-in-len1-up
returns-in-len1-up c = λ d symbol begun inside.
    sym (ends_some c.args.end c.args.run.now _ (omega arith))
    ∙ first_is_defined d symbol c.args.end c.args.run.now begun inside
