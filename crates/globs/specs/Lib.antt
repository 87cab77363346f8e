-- patterns, and what matches them
pub mod Pieces
pub mod Exclusions
-- what no public contract names
pub mod Rows
