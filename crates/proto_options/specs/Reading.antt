pub mod Aggregates
pub mod Settings
pub mod Options
pub mod Statements
pub mod Walk
