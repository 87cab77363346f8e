-- What is answered in the end by a run that has a report.
use Rattle.std.specs.Prelude.{Result, Ok, Err}
use Rattle.protoscip.specs.declared.fault.Fault.{Fault}

-- its own answer, or, if it has no fault, the one for which there is no report
abbrev pub settled : {A : Type 0} → (ran : Result A Fault) → (reported : Result (Unit {0}) Fault) → Result A Fault
settled (Ok made) (Ok done) = Ok made
settled (Ok made) (Err fault) = Err fault
settled (Err fault) reported = Err fault
