-- what is cut from a line
pub mod Lines
-- what is between the marks of a comment, and its lines
pub mod Comments
-- the text of comments, cleaned
pub mod Cleaned
-- texts with U+FFFD in place of each NUL
pub mod Nul
-- the forms in which texts of comments are given
pub mod Forms
-- what no public contract names
pub mod Steps
