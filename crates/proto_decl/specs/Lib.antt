-- names and scopes
pub mod Names
-- where names are in the text
pub mod Spans
-- what contracts and callbacks see of a declaration, and of what is around it
pub mod Values
-- what a file imports
pub mod Imports
-- what a file declares, and which comments document it
pub mod Declares
pub mod Comments
pub mod Layout
-- how declarations read, and where they are
pub mod Signatures
pub mod Extents
pub mod Detailed
-- which types a file uses
pub mod Uses
-- what is found on a walk
pub mod Walked
-- all of it
pub mod Facts
-- what is law of it
pub mod Laws
