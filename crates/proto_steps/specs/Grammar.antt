-- what is inside statements
pub mod Parts
-- statements, and what a file is
pub mod Definitions
