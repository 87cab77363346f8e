use Rattle.std.proofs.Common.{Some, Result, IfOk, refl, sym, subst}
use Rattle.proto_visibility.specs.declared.fault.LinkFault.{LinkFault}
use Rattle.proto_link.specs.declared.target.Target.{Target}
use Rattle.option_link.specs.Typed.{AnswersAlike}
use Rattle.option_link.proofs.searches.named_by.Goals as goal

pub returns-in-Ok : goal.returns-in-Ok
returns-in-Ok c =
    subst (λ (a : Result Target LinkFault). AnswersAlike a (Some c.in-Ok.target)) (sym c.in-Ok.is) refl

pub returns-in-Err : goal.returns-in-Err
returns-in-Err c =
    subst (λ (a : Result Target LinkFault). IfOk c.nothing_by.result (λ found. AnswersAlike a found)) (sym c.in-Err.is)
    c.nothing_by.ensures
