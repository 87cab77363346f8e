-- Each file is named after the spec or source that it serves.
-- The symbols of entities have spellings, and name one entity each
pub mod EntityLemmas
-- Texts with their marks doubled
pub mod NameDoubledLemmas
-- Names: what is read is spelled, and what is spelled is read
pub mod NameLemmas
-- The declarations of files in whose facts a full name is that of one declaration are without a clash
pub mod OneEntityClashLemmas
-- In facts without a clash a symbol's text names one entity
pub mod OneEntityLemmas
-- The parts of a package by number
pub mod PackageLemmas
-- A text behind a front
pub mod ReadingAfterLemmas
-- Descriptors: what is read is spelled, and what is spelled is read
pub mod ReadingDescriptorLemmas
-- Readers that look no further than the byte behind what they read: where one stops, it stops whatever follows
pub mod ReadingLocalLemmas
-- Where the reader stops before the end, it stops whatever follows the byte at which it does
pub mod ReadingStopLemmas
-- Reads, choices and tests
pub mod ReadingTestLemmas
-- Texts up to a mark that isn't doubled
pub mod ReadingUndoubledLemmas
-- Where the reader of descriptors stops, what it has read begins a spelling
pub mod SpellsBeginLemmas
-- Where the reader of symbols stops, what it has read begins a spelling
pub mod SpellsSymbolBeginLemmas
-- Where the reader stops, the longest prefix of the text that begins some symbol's spelling ends
pub mod SpellsSymbolLongestLemmas
-- Just the parts of a symbol have a spelling, and the printed text is one
pub mod SpellsSymbolTextLemmas
-- Symbols: what is read is spelled, and what is spelled is read
pub mod SymbolLemmas
