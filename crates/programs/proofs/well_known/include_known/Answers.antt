use Rattle.std.proofs.Common.{refl}
use Rattle.std.proofs.lemmas.Result.{IfOk-weaker}
use Rattle.programs.specs.WellKnown.{found, none_found, unasked}
use Rattle.programs.proofs.well_known.include_known.Goals as goal

pub returns-in-Some-clause-included : goal.returns-in-Some-clause-included
returns-in-Some-clause-included g c =
    let known = rw c.in-Some.is at c.in_ok-folder.ensures in
    IfOk-weaker c.include_folder.result _ _ (λ root is. found c.if-options.true known is)
    c.include_folder.ensures.included

pub returns-in-None-clause-included : goal.returns-in-None-clause-included
returns-in-None-clause-included g c =
    none_found c.if-options.true (rw c.in-None.is at c.in_ok-folder.ensures) refl c.say.ensures

pub returns-else-options-clause-included : goal.returns-else-options-clause-included
returns-else-options-clause-included g c = unasked c.if-options.false refl refl
