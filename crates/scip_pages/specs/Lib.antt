-- the page of a source: its head, its code, and what it defines
pub mod Page
pub mod CodeText
pub mod ListedNumbers
pub mod Crumbs
pub mod Uses
pub mod Shown
-- its marks, and what a reader of HTML makes of them
pub mod Marks
pub mod Tags
-- where its occurrences lead
pub mod Site
pub mod Targets
pub mod Hover
pub mod Facts
pub mod Ids
-- snapshots
pub mod Snapshot
pub mod SnapshotOutcomes
-- answers, for people
pub mod Told
pub mod ToldPlaces
-- what both stand on: texts, columns, what is marked on a line, code, paths and URLs
pub mod Escapes
pub mod Plainly
pub mod Plain
pub mod Columns
pub mod Counted
pub mod Runs
pub mod Listed
pub mod Code
pub mod Paths
pub mod Urls
-- the laws
pub mod EscapeLaws
pub mod ColumnLaws
pub mod RunLaws
pub mod CodeLaws
pub mod PathLaws
pub mod SnapshotLaws
pub mod UrlLaws
pub mod PageLaws
