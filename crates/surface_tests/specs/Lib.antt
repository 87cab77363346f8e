-- the source that the tests link
pub mod OneSource
