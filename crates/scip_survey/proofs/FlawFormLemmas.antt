-- The values of what is wrong have no floats.
use Rattle.std.proofs.Common.{◌≡◌, ◌||◌, false, refl, ap}
use Rattle.std.specs.Prelude.{Option, None, Some}
use Rattle.serde_json.specs.Written.{has_float}
use Rattle.scip_records.specs.declared.records.Occurrence.{Occurrence}
use Rattle.scip_survey.specs.FlawForms.{flaw_value, range_of}
use Rattle.scip_survey.specs.Flaws.{Flawed}

of_range : (occurrence : Option Occurrence) → has_float (range_of occurrence) ≡ false
of_range None = refl
of_range (Some occurrence) = refl

pub of_flaw : (f : Flawed) → has_float (flaw_value f) ≡ false
of_flaw f = ap (λ b. b || false) (of_range f.occurrence)
