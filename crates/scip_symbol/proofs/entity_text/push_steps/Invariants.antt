use Rattle.std.proofs.Common.{◌≡◌, ◌++◌, drop}
use Rattle.std.specs.String.{string_bytes}
use Rattle.scip_symbol.specs.EntityTexts.{steps_text}
use Rattle.scip_symbol.proofs.entity_text.push_steps.Given as goal

abbrev pub invariant-loop-step : goal.invariant-loop-step
invariant-loop-step l = string_bytes l.out ++ steps_text (drop l.step-index l.steps)
    ≡ string_bytes l.fn.out ++ steps_text l.steps
