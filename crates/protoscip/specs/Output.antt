-- Writing a text to the program's output.
use Rattle.std.specs.Prelude.{◌≡◌, ℕ, List, Result, MatchResult}
use Rattle.streams.specs.Writers.{Writer, IsWritten, IsCutOff}
use Rattle.protoscip.specs.declared.fault.Fault.{Fault}
use Rattle.protoscip.specs.declared.fault.Fault.TheVariants.{Write}

-- the whole text was written; or a write failed after `count` bytes of it, which is the
-- fault
abbrev pub Writes : {W : Type 0} → Writer W → List ℕ → Result (Unit {0}) Fault → Type 0
Writes out text done =
    MatchResult done (λ _. IsWritten out text)
    (λ fault. (count : ℕ) × (fault ≡ Write count) × IsCutOff out text count)
