-- What a lookup finds and what the last components of a name name, for the code; no public contract names it.
pub mod Doubts
pub mod Found
pub mod Parts
