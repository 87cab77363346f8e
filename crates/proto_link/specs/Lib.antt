-- what a use names, and what each of its components does
pub mod Resolves
pub mod Targets
-- what it names if files are mended
pub mod Mended
-- which uses may then name another type
pub mod Uncertain
-- and that no other ones may
pub mod Certain
-- what it names in a part of files
pub mod Parts
-- the laws
pub mod Laws
-- what no public contract names
pub mod Tables
