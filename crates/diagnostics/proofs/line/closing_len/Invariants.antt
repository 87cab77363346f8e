use Rattle.std.proofs.Common.{◌≡◌, ◌+◌, length}
use Rattle.diagnostics.specs.Places.{closing_len}
use Rattle.diagnostics.specs.Tables.Steps.{closing_from}
use Rattle.diagnostics.proofs.line.closing_len.Given as goal

-- those so far and those to come
abbrev pub invariant-bytes : goal.invariant-bytes
invariant-bytes l = record {
  same : l.count + closing_from l.quote l.escaped l.rest ≡ closing_len l.quote l.others;
  fits : l.count + length l.rest ≡ length l.others;
}

abbrev pub decreases-bytes : goal.decreases-bytes
decreases-bytes l = length l.rest
