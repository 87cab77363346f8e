use Rattle.std.proofs.Common.{◌∙◌, ap, sym, Some}
use Rattle.scip_query.proofs.CommandLemmas.{path_is, path_isnt}
use Rattle.scip_query.proofs.command.path_of.Goals as goal

pub returns-in-Ok : goal.returns-in-Ok
returns-in-Ok c =
    ap Some c.in-Ok.ensures.cases.0
    ∙ sym (path_is c.args.path.now (sym c.is_empty.ensures ∙ c.if-is_empty.false) c.in-Ok.ensures.cases.1)

pub returns-in-Err : goal.returns-in-Err
returns-in-Err c = sym (path_isnt c.args.path.now c.in-Err.ensures.cases.0)
