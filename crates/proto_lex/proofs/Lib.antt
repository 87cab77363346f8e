-- Each file is named after the spec or source that it serves.
pub mod ByteLemmas
pub mod CommentLemmas
-- Worked texts of comments, by computation
pub mod CommentTextExamples
-- The fault that a text meets first is the one that is read
pub mod FaultExact
pub mod FaultFound
-- What stands at a place where a `#` may begin a comment, or in one
pub mod HashLemmas
pub mod LexedLemmas
-- The two laws of the lexer: what is read lexes, and what lexes is read
pub mod LexesLemmas
pub mod LexesLongestLemmas
pub mod LiteralExact
pub mod LiteralFound
pub mod LiteralLemmas
pub mod NumberLemmas
pub mod PieceExact
pub mod PieceFound
-- The steps of reading the pieces of a text
pub mod PiecesLemmas
-- Positions keep the order of offsets
pub mod PositionBeforeLemmas
-- The code units of a text in UTF-16, counted by its bytes in UTF-8
pub mod PositionCodeUnitLemmas
-- Worked positions, by computation
pub mod PositionExamples
-- A position one byte on, and how large positions are
pub mod PositionLemmas
-- What stands before an offset on its line is text of its own
pub mod PositionLineBeforeLemmas
-- The line starts of a text, and what the last one that isn't after an offset says of the offset
pub mod PositionLineStartLemmas
pub mod ReadingPrefixLemmas
-- What the searches for bytes say: how long a line and a block comment are, and where the lines of a text start
pub mod ReadingSearchLemmas
-- Readings that may fail, and tests and slices that they take apart
pub mod ReadingTestLemmas
-- The code units between two places of a text, by those that are kept
pub mod UnitLemmas
