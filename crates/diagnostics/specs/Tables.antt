-- How the code goes; no public contract names it.
pub mod Steps
