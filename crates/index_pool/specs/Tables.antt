-- What the parts of a phase do, for the code; no public contract names it.
pub mod PhaseSteps
