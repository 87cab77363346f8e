-- The path that is missing by a finding.
use Rattle.std.proofs.Common.{◌≡◌, ℕ, false, List, [], ◌∷◌, Some, refl}
use Rattle.std.specs.Str.{bytes_eq}
use Rattle.std.specs.Str.Lossy.{utf8_lossy}
use Rattle.diagnostics.specs.Literals.{joined}
use Rattle.fault_reports.specs.Findings.{Found}
use Rattle.programs.specs.Missing.{left_out_sentence, missing_in}

pub missing_is : (found : Found) (literals : List ℕ) → bytes_eq found.message left_out_sentence ≡ false
    → found.imported ≡ Some literals → missing_in found ≡ utf8_lossy (joined literals) ∷ []
missing_is found literals other is = rw (other, is) refl
