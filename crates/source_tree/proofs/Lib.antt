-- Each file is named after the spec or source that it serves.
-- The marked files are those that count: each the first of its path, and of a path that isn't taken
pub mod CountingLemmas
-- The files of a tree by their numbers
pub mod FilePlaceLemmas
-- The laws: one tree, and one fault
pub mod LawLemmas
-- The tree in which files are mended
pub mod MendedTreeLemmas
-- What is read of bytes that needn't be UTF-8 in comments
pub mod MendingLemmas
-- Another byte than there is is read in comments alone
pub mod MendingLawLemmas
-- Of bytes one text is read, which is as long
pub mod MendingOneLemmas
-- Lists of files sorted by path: a file with the path of an earlier one stands next to it
pub mod PathLemmas
-- Lemmas on what is kept of a source
pub mod ReadingLemmas
-- The first bad path and the first repeated one, as the code finds them
pub mod RefusalLemmas
-- The sorted sources and the sorted included files that count are the tree
pub mod TreeLemmas
