use Rattle.std.proofs.Common.{ap, refl, subst, sym, Err}
use Rattle.programs.specs.Joining.{MayNotPut}
use Rattle.programs.specs.Placing.{place}
use Rattle.programs.specs.Placing.IsUnput.{refused}
use Rattle.programs.specs.declared.join_stop.JoinStop.{JoinStop}
use Rattle.programs.proofs.JoiningLemmas.{unput_by}
use Rattle.programs.proofs.joining.put.Goals as goal

pub returns-in-Err-clause-stops : goal.returns-in-Err-clause-stops
returns-in-Err-clause-stops g c = λ index pieces.
    let at = place g.P.OutPlace g.P.Part.Sink c.args.at.now c.args.at.now in
    subst (λ (stop : JoinStop). MayNotPut at index stop) (sym c.from.ensures)
    (unput_by at index c.in_ok-part.part c.write.new.sink c.in-Err.fault c.in_ok-part.ensures
    (c.in-Err.ensures.refused index pieces) (λ is. (c.in-Err.ensures.too_large index pieces).0 (ap Err is))
    (c.leave.ensures, refl))

pub returns-in-Err-put-clause-stops : goal.returns-in-Err-put-clause-stops
returns-in-Err-put-clause-stops g c = λ index pieces.
    refused c.in_ok-part.part c.write.new.sink c.in_ok-part.ensures (c.in_default.ensures.ok index pieces)
    c.in-Err-put.ensures
