use Rattle.std.proofs.Common.{◌≡◌, ◌<◌, take}
use Rattle.std.specs.Prelude.{IfSome}
use Rattle.scip_query.specs.MoreCommandReading.{last_parts_of}
use Rattle.scip_query.specs.Tables.LastParts.{parts_at}
use Rattle.scip_query.proofs.more_command.last_parts_of.Given as goal

-- the last colon so far
abbrev pub invariant-loop-at : goal.invariant-loop-at
invariant-loop-at l = record {
  within : IfSome l.found (λ k. k < l.at);
  parts : parts_at (take l.at l.line) l.found ≡ last_parts_of (take l.at l.line);
}
