use Rattle.std.proofs.Common.{◌≡◌, take}
use Rattle.std.specs.String.{string_bytes}
use Rattle.scip_model.proofs.RepeatedNameLemmas.{before-last}
use Rattle.scip_model.proofs.naming.outermost_text.Given as goal

-- the components so far, each with a dot behind it
abbrev pub invariant-loop-component : goal.invariant-loop-component
invariant-loop-component l = string_bytes l.text ≡ before-last (take l.component-index l.component-items)
