use Rattle.std.proofs.Common.{◌≡◌, take, drop}
use Rattle.std.specs.Option.{option_map}
use Rattle.scip_query.specs.CommandReading.{parts_of, with_front}
use Rattle.scip_query.proofs.command.parts_of.Given as goal

-- there is no space so far
abbrev pub invariant-loop-at : goal.invariant-loop-at
invariant-loop-at l = option_map (with_front (take l.at l.line)) (parts_of (drop l.at l.line)) ≡ parts_of l.line
