use Rattle.std.proofs.Common.{◌≡◌, ◌++◌, length}
use Rattle.std.specs.String.{string_bytes}
use Rattle.std.specs.Str.{IsUtf8}
use Rattle.scip_symbol.specs.Names.{doubled}
use Rattle.scip_symbol.proofs.printer.push_doubled.Given as goal

-- what is written, and what is left with its marks doubled, is the whole
abbrev pub invariant-marks : goal.invariant-marks
invariant-marks l = (string_bytes l.out ++ doubled l.mark l.rest ≡ string_bytes l.fn.out ++ doubled l.mark l.text)
    × IsUtf8 l.rest

abbrev pub decreases-marks : goal.decreases-marks
decreases-marks l = length l.rest
