-- texts, and the positions in them
pub mod Text
pub mod Position
pub mod PositionLaws
pub mod Units
-- what spells tokens and comments
pub mod Ascii
pub mod Bytes
pub mod Numbers
pub mod Literals
pub mod Comments
-- where a `#` begins a comment
pub mod Hashes
-- the tokens and comments of a text, and why a text has none
pub mod Lexes
pub mod Lexed
pub mod Faults
pub mod FaultNames
pub mod LexLaws
pub mod CommentTexts
-- what the lexer's private functions give
pub mod Reading
