-- Each file is named after the spec or source that it serves.
-- What code in a page shows
pub mod CodeLemmas
-- What a reader makes of the parts of a page, whose URLs are of a kind
pub mod CodePartLemmas
-- Lists of numbers, tables of them, and lines that they mark
pub mod CodeTextLemmas
-- Offsets of columns
pub mod ColumnLemmas
-- Each column is at one offset
pub mod ColumnOffsetLemmas
-- The units of a text, counted by its bytes in UTF-8, and in the form that they are units of
pub mod ColumnUnitLemmas
-- Lines of a source, and their milestones
mod CountedLemmas
-- Decimal digits in a page
pub mod DecimalLemmas
-- Texts that are cut, by their first bytes
mod HoverLemmas
-- What escaped texts show, and that they have no marks
pub mod EscapeLemmas
-- Facts that serve for a symbol
mod FactLemmas
-- Pages have the places to which their links lead
pub mod IdLemmas
-- Ids of pages are of one line or one definition each
mod IdOwnLemmas
-- The code of a page shows the source, and uses lead to definitions
mod LawLemmas
-- Places of a symbol's occurrences are in the index
mod LawReferenceLemmas
-- The URLs that stand in a page
pub mod PageUrlLemmas
-- Where paths of pages lead
pub mod PathLemmas
-- Texts whose first bytes are written as they are
pub mod PlainLemmas
-- Spans laid over bytes, and runs of marks
pub mod RunLemmas
-- The narrowest of the spans of a byte
pub mod RunSpanLemmas
-- Lines of answers
pub mod ToldLemmas
-- The marks of the folders on a path, as they are found byte by byte
pub mod SiteFolderLemmas
-- URLs of pages, by the paths of their documents
mod SiteLemmas
-- Snapshots and what is in them
pub mod SnapshotLemmas
-- Snapshots have their source
pub mod SnapshotSource
-- What a reader makes of the parts of a page
pub mod TagLemmas
-- Texts without a NUL: what is shown of them is the text
pub mod UrlCleanLemmas
-- What URLs of pages are read as, and where they lead
pub mod UrlLemmas
