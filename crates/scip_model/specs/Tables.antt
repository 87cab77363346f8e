-- What the code lists and marks: no clause of a public function names it.
-- what the laws of the crates below say
pub mod KnownFacts
-- what lists gain
pub mod Additions
-- the lists that make up what occurs, and two lists in order made one
pub mod Listing
pub mod OptionListing
pub mod Merges
-- the lists by which entries are found, and their numbers
pub mod EntryLists
pub mod ExternalLists
-- the texts of own declarations, and numbers for texts
pub mod OwnTexts
pub mod Plans
pub mod KnownParts
-- the steps by which repeated names are found
pub mod Repeats
-- the marks of paths that pieces have
pub mod TakenPaths
