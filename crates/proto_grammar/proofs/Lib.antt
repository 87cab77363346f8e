-- Each file is named after the spec or source that it serves.
pub mod Exact
pub mod Found
-- What is in the grammar leaves fewer tokens
pub mod GrammarShorterLemmas
-- Aggregates, token by token
pub mod OptionClosedLemmas
-- Each step of a loop takes a token
pub mod RepetitionFallLemmas
-- Steps that may meet a fault, taken apart
pub mod RepetitionStepLemmas
-- Steps up to where they end: what a loop over them keeps, and what they are in the grammar
pub mod RepetitionUntilLemmas
-- The tokens from a place on, and places that are behind others
pub mod TerminalPlaceLemmas
-- Single tokens: what is read of them, and what tests of them exclude
pub mod TerminalTokenLemmas
