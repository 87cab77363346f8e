-- characters, and what is shown of them
pub mod Characters
pub mod Shown
-- a place in a source, and its line
pub mod Places
pub mod Excerpts
-- how a place is counted
pub mod Counting
-- blanks and comments, and literals with these between them
pub mod Gaps
pub mod Literals
pub mod Laws
-- what no public contract names
pub mod Tables
-- what the lexer and the parser answer
pub mod Answers
-- what is tried, and what could stand
pub mod Candidates
pub mod Hints
-- how it is told
pub mod Wording
-- what private code appends
pub mod Appended
