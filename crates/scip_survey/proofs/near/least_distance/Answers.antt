use Rattle.std.proofs.Common.{List, [], ℕ}
use Rattle.std.specs.Borrow.{Bor}
use Rattle.scip_survey.specs.Near.{distance}
use Rattle.scip_survey.proofs.NearLemmas.{one_nearer}
use Rattle.scip_survey.proofs.near.least_distance.Goals as goal

pub loop-name-preserved : goal.loop-name-preserved
loop-name-preserved c = λ n few.
    let none : Bor (List ℕ) = record { ref_ptr = (0, 0); now = [] } in
    one_nearer (λ (name : Bor (List ℕ)). distance c.args.text.now name.now) c.args.names.now c.loop-name.name-index
    none n c.loop-name.least c.in_ok-distance.distance c.lesser-least.result c.loop-name-test.true
    c.lesser-least.ensures
    c.in_ok-distance.ensures.value
    (c.loop-name.invariant n few)
