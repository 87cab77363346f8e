-- Tokens
pub mod Lexeme
pub mod Terminal
-- Dialects
pub mod Syntax
-- The tree of a block
pub mod Tree
pub mod Items
pub mod Tables
-- The grammar
pub mod Grammar
-- What the parser does
pub mod Gives
pub mod Reading
pub mod View
-- What faults are called
pub mod FaultNames
