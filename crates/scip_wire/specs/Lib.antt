-- Definitions of the encoding: the fields that bytes hold, and the index that they decode to.
pub mod Fields
pub mod Decodes
-- and why bytes decode to none
pub mod Refused
pub mod TenthByte
-- The bytes that an index is written as, and what its types know of it.
pub mod Spelling
pub mod WellFormed
-- What the reader computes, and what its results say.
pub mod Views
pub mod Reading
pub mod Blamed
pub mod Gives
-- What the writer computes and answers.
pub mod Halves
pub mod Saturated
pub mod Outputs
pub mod Shortened
pub mod Buffered
pub mod Writing
-- what is said about a fault
pub mod WireFaults
