pub mod Repetition
pub mod Names
pub mod Options
pub mod Fields
pub mod Reserved
