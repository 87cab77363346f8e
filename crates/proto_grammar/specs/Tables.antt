-- What the model of a block rests on: no public contract names it.
-- by what values are told apart
pub mod Code
-- that what is inside is smaller
pub mod Falls
