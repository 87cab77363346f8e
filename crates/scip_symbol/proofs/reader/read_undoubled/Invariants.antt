use Rattle.std.proofs.Common.{◌≡◌, false, length}
use Rattle.std.specs.String.{string_bytes}
use Rattle.std.specs.Str.{IsUtf8}
use Rattle.scip_symbol.specs.Reading.{undoubled_at}
use Rattle.scip_symbol.proofs.ReadingUndoubledLemmas.{ontos}
use Rattle.scip_symbol.proofs.reader.read_undoubled.Given as goal

-- what is read, and what is left, is the whole
abbrev pub invariant-marks : goal.invariant-marks
invariant-marks l = (ontos (string_bytes l.word) (undoubled_at l.mark false l.rest) ≡ undoubled_at l.mark false l.text)
    × IsUtf8 l.rest

abbrev pub decreases-marks : goal.decreases-marks
decreases-marks l = length l.rest
