use Rattle.std.proofs.Common.{◌≡◌, take}
use Rattle.proto_decl.proofs.surrounding.copy_path.Given as goal

-- the steps so far
abbrev pub invariant-loop-step : goal.invariant-loop-step
invariant-loop-step l = l.copy.items ≡ take l.step-index l.path
