use Rattle.std.proofs.Common.{◌≡◌, ◌++◌, take}
use Rattle.std.specs.String.{string_bytes}
use Rattle.diagnostics.specs.Excerpts.{blanks}
use Rattle.diagnostics.proofs.excerpt.push_blanks.Given as goal

-- the spaces of the digits so far
abbrev pub invariant-loop-digit : goal.invariant-loop-digit
invariant-loop-digit l = string_bytes l.out ≡ string_bytes l.fn.out ++ blanks (take l._digit-index l.digits)
