-- General lemmas, for all crates.
-- Texts that are appended one behind another
pub mod AppendedLemmas
-- A text of ASCII is UTF-8
pub mod AsciiLemmas
-- What tests that are true or false say
pub mod BoolLemmas
-- Elements of lists
pub mod ElementLemmas
-- What holds of some values holds of values that are equal to them
pub mod EqualLemmas
-- The first item of a list that passes a test; items and their numbers
pub mod FirstLemmas
-- Lists: what is in one, pairs of two, what is made of each item, and what holds of all
pub mod ListLemmas
-- What a loop appends for each element, one after another, and two maps as one
pub mod LoopLemmas
-- Lists that are parts of others, and their order
pub mod PartedLemmas
-- Lists by their places
pub mod PlaceLemmas
-- Lists along which a number of each element doesn't fall
pub mod RisingLemmas
-- Lists that rise strictly, and lists sorted stably: each is told by its elements
pub mod StrictOrderLemmas
-- Tests: when two are the same, and what one that holds, or doesn't, says
pub mod TestLemmas
