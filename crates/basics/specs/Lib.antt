-- the bytes of a text, wherever it is, and what its copy is
pub mod Kept
