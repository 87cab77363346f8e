-- Grammars as data
pub mod Step
pub mod Lawful
-- The grammar
pub mod Terminals
pub mod Grammar
-- What functions do
pub mod Choice
pub mod Limits
pub mod Version
