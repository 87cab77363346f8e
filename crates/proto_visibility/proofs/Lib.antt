-- Each file is named after the spec or source that it serves.
-- The first import that isn't there
pub mod AbsentLemmas
-- Searches backwards: steps that are turned, and for each file the first end that leads to it
pub mod BackwardLemmas
-- Names that can't clash, since the numbers of them differ
pub mod ClashDifferingLemmas
-- The first clash of names, over items in order of place
pub mod ClashLemmas
-- Names of files that are one namespace, and of files each of which is one
pub mod DuplicateLemmas
-- The facts of the file with a number
pub mod FileFactLemmas
-- An order of files, and rows of places in it
pub mod FileOrderLemmas
-- The facts of files are those of texts
pub mod FileOriginLemmas
-- Steps by the numbers of paths are imports
pub mod ImportTableLemmas
-- The items of the files of a row, in order of place
pub mod ItemAllLemmas
-- The items of one file, in order of place
pub mod ItemLemmas
-- The files that are linked, among all files
pub mod KeptAmongLemmas
-- The laws of what is kept
pub mod KeptLemmas
-- The order in which files are taken: sources first, and each kind by number
pub mod KeptOrderLemmas
-- What public imports lead to from files
pub mod LeadingLemmas
-- Why files can't be linked, for functions that refuse them
pub mod LinkedRefusalRules
-- What a full name names in one file
pub mod LookupEntityLemmas
-- The names that a file knows
pub mod LookupKnownLemmas
-- The files that give a name, by the tables
pub mod LookupListedLemmas
-- Whether two files that are seen give a name
pub mod LookupTwiceLemmas
-- Tables of the names that files give
pub mod NameLemmas
-- The files without facts are left out; what kept sources reach; and the order of all items
pub mod OmissionLemmas
-- What is left out where each file is a namespace of its own
pub mod OmissionOwnLemmas
-- What is left out of the sources, and then of the other files that kept ones reach
pub mod OmissionPassLemmas
-- In which file each source has the messages of its options
pub mod OptionLemmas
-- Files that are a part of others
pub mod PartLemmas
-- What they lead to, and what sources of them reach
pub mod PartReachLemmas
-- They can be linked, if those can
pub mod PartLinkedLemmas
-- The pass over items that leaves out the files with a clash
pub mod PassLemmas
-- What sources reach, by one search from those whose options are linked, and then from all
pub mod ReachingLemmas
-- Rows of numbers that rise, and binary search in them
pub mod RowRisingLemmas
-- Runs of numbers
pub mod RowRunLemmas
-- The marks of a search over files
pub mod SearchLemmas
-- A search along the steps of a table finds what a file sees
pub mod SeeingLemmas
-- Which files are reachable, by one search from all sources
pub mod SeeingReachableLemmas
-- The numbers of the files of a kind, as they are collected in order
pub mod ThoseLemmas
