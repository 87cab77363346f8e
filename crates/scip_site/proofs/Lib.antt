-- Each file is named after the spec or source that it serves.
-- No file of all pages is where another has a folder
mod FolderLawApartLemmas
-- The first page has the places of folders
mod FolderLawLemmas
-- The marks of folders in the paths of pages, by which no page is where another has a folder
mod FolderLawMarkLemmas
-- Paths of pages
mod LawPagePathLemmas
-- Files that are made one after another
mod MakingLemmas
-- What a reader makes of the first page
mod NestingLemmas
-- Documents that have pages
mod ReadingGoodLemmas
-- Sources that are read one after another
mod ReadingLemmas
-- Paths that are seen
mod RepeatLemmas
-- Texts between quotes
mod ScriptLemmas
-- What becomes of a document by the bytes of its source
mod SnapshotOutcomeLemmas
-- Sources of some documents
mod SourceLemmas
-- Documents that are shown one after another
pub mod SnapshotShowLemmas
-- The tree of folders
mod TreeLemmas
-- The URLs that stand in pages lead to files that are made
mod UrlLawFileLemmas
