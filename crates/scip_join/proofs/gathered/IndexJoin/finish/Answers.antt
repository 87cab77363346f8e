use Rattle.std.proofs.Common.{reverse, subst}
use Rattle.std.proofs.lemmas.Result.{err_from_is_err_and}
use Rattle.scip_join.specs.Gathered.{Gathered}
use Rattle.scip_join.specs.Steps.{IsSettled}
use Rattle.scip_join.specs.Tables.{RefusesPieces}
use Rattle.scip_join.proofs.JoinedLemmas.{whole_is}
use Rattle.scip_join.proofs.RefusedLemmas.{allowed, may_refuse}
use Rattle.scip_join.proofs.gathered.IndexJoin.finish.Goals as goal

pub returns-clause-joined : goal.returns-clause-joined
returns-clause-joined c indexes is =
    whole_is c.args.self.choices indexes c.settle.new.self c.in_ok-into_joined.field-0
    (subst (λ (g : Gathered). IsSettled g c.settle.new.self) is c.in_ok-settle.ensures.settled)
    c.in_ok-into_joined.ensures

pub returns-clause-allowed : goal.returns-clause-allowed
returns-clause-allowed c indexes is =
    allowed c.args.self.choices indexes c.settle.new.self
    (subst (λ (g : Gathered). IsSettled g c.settle.new.self) is c.in_ok-settle.ensures.settled)

pub returns-in_err-settle-clause-refused : goal.returns-in_err-settle-clause-refused
returns-in_err-settle-clause-refused c indexes is =
    let p = err_from_is_err_and c.from_residual.result c.from_residual.ensures.1 in
    let fault = c.in_err-settle.field-0.0 in
    rw (p.1, p.2) (may_refuse c.args.self.choices indexes fault
    (subst (λ (g : Gathered). RefusesPieces c.args.self.choices.replace (reverse g.pieces) fault) is
    c.in_err-settle.ensures.refused))
