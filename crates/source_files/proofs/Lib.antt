-- Each file is named after the spec or source that it serves.
-- Which paths are fresh, and what files are reached by them
pub mod ClosureLemmas
-- The files that sources reach, level by level
pub mod ReachedLemmas
-- What the entries of a folder give, entry by entry
pub mod EntryLemmas
-- What isn't excluded, one after the other
pub mod ExclusionLemmas
-- What is found in a folder, by what listing it gave
pub mod FoundLemmas
-- Sources by what looking for them gave, and the paths of files by their roots
pub mod ListedLemmas
-- The tree of a list, and why there is none, step by step
pub mod ListedTreeLemmas
-- The files below several roots, root by root, and the paths that are named
pub mod LoadLemmas
-- Looking for files: below roots, root by root; and for several, path by path and in parts
pub mod LookLemmas
-- Files that are asked about: whether each is the one at a place
pub mod PlaceLemmas
-- If no folder says which it is, what is found level by level is found folder by folder
pub mod PlainWalkLemmas
-- What a phase answers, source by source, and the parts in which sources are read
pub mod ReadingLemmas
-- Where nothing was left out below a root, its files are the same whether something is to be left out or not
pub mod RootLawLemmas
-- The files below a root, of what is listed and read there
pub mod RootLemmas
-- The lines of a list, one after the other
pub mod SourceListLemmas
-- What is read, or none; and what is kept of a source where nothing is known of the files
pub mod SystemFileKeptLemmas
-- Which files are taken, one after the other; and the tree of those that are
pub mod TakenLemmas
-- Paths that are listed below a root stay below it
pub mod WalkLawLemmas
-- A walk through the folders below a root, level by level, finds what is listed there
pub mod WalkLemmas
-- Items by a view of them, each once
pub mod WalkOnceLemmas
-- What is listed below a root is one list, if each folder has one listing
pub mod WalkOneListingLemmas
-- What a phase answers of folders, folder by folder, and the parts in which folders are listed
pub mod WalkStepPartLemmas
-- What is beside each `protoc`, folder by folder, and the first folder that has the well-known files
pub mod WellKnownLemmas
-- What sources reach, where something of it can't be read (specs/Reached)
pub mod UnreadLemmas
-- The order of what isn't read is one, and tells any two apart; and what is shown of a path
pub mod UnreadEntryLemmas
