-- Each file is named after the spec or source that it serves.
-- What adding an argument makes of a program
pub mod ProgramRuleLemmas
-- What the answers of `clap` ask for
pub mod RequestAnswerLemmas
-- What the getters of `clap` read of the rows
pub mod ValueLemmas
-- The limit that a text gives
pub mod ValueLimitLemmas
-- Where the value of an option comes from
pub mod ValueRealLemmas
-- The number of threads that a text gives
pub mod ValueWorkersLemmas
