use Rattle.std.proofs.Common.{◌≡◌, ◌++◌, drop, map}
use Rattle.scip_symbol.specs.Entities.{step_descriptor}
use Rattle.scip_symbol.proofs.entity.push_steps.Given as goal

abbrev pub invariant-loop-step : goal.invariant-loop-step
invariant-loop-step l = l.descriptors.items ++ map step_descriptor (drop l.step-index l.steps)
    ≡ l.fn.descriptors.items ++ map step_descriptor l.steps
