-- a folder of pages: what is read, what is made, and why not all
pub mod Reading
pub mod Making
pub mod SiteFaults
-- the first page, and what all pages share
pub mod Tree
pub mod Nesting
pub mod Repeats
pub mod Script
-- snapshots: what becomes of each document, where they go, and why not all are shown
pub mod LeftOuts
pub mod Snapshots
pub mod Showing
pub mod ShowFaults
-- the sources of some documents
pub mod Sources
-- the laws
pub mod FolderLaws
pub mod Laws
pub mod UrlLaws
pub mod SharedLaws
