-- what may be kept of a source
pub mod Source
pub mod SystemFiles
-- what folders have, and what is listed below a root
pub mod Entries
pub mod Unread
pub mod Listings
pub mod Exclusions
pub mod WellKnown
pub mod Walks
pub mod PlainWalks
pub mod WalkLaws
pub mod WalkSteps
-- what the sources below a root are, and which can't be read
pub mod Roots
pub mod RootFaults
pub mod RootLaws
pub mod Reading
-- the tree below a root and included roots, and why there is none
pub mod Taken
pub mod Loads
pub mod LoadFaults
-- which sources a list names, and the files that they see
pub mod SourceLists
pub mod Reached
pub mod Looks
pub mod Closures
pub mod ListedTrees
-- files that are made
pub mod Made
pub mod Makers
-- where a file is to be
pub mod Places
-- where a folder is to be
pub mod FolderPlaces
-- why the system refuses a call
pub mod Causes
