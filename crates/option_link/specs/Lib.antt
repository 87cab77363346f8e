-- declarations by their places, and what fields are of
pub mod Places
pub mod Fields
pub mod Said
pub mod Typed
pub mod Marks
pub mod Packages
pub mod Tables
pub mod Beside
pub mod Linked
-- what a name in an option is looked up in, and what it names
pub mod Lookups
pub mod Outer
pub mod Contexts
pub mod Messages
-- what the options of a file name
pub mod OptionNames
-- which names may name another field once a file can be read, and that no other ones may
pub mod Uncertain
pub mod Certain
pub mod Found
pub mod Doubts
pub mod KnownFields
pub mod Laws
-- names in options, in a part of files
pub mod Parts
