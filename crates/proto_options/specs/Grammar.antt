-- what is read past in messages
pub mod Passed
pub mod Aggregates
pub mod Settings
