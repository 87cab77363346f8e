-- Each file is named after the spec or source that it serves.
-- What becomes of commands about an index that isn't read back
mod ConversingRules
-- A source has one listing, and is refused for want of memory alone where it has one
mod DumpLawLemmas
-- What a dump answers, by where it stops
mod DumpLemmas
-- The tree of one source
mod DumpTreeLemmas
-- What is appended in parts
mod ExplainingLemmas
-- Whether a tree has a file with a path
mod ExplanationPathLemmas
-- Why what is told of a tree can't be had
mod FindingLemmas
-- Lists by their places, and what is found in them
mod FindingListLemmas
-- The findings of a report: the files that they name, and that each comes once
mod FindingReportLemmas
-- Names that are joined by dots: of parts without a dot one text is made by one list
mod HeadlineDottedLemmas
-- The entities of linked files: what occurs names one, and a symbol's text is that of one
pub mod HeadlineEntityLemmas
-- The files that a fault of a build names are files of its tree
mod HeadlineFileLemmas
-- Queries over the index of a tree answer exactly the occurrences of the entity asked
pub mod HeadlineLemmas
-- Files that were read are linked with facts of their texts, and under the tree's paths
mod HeadlineLinkedLemmas
-- What is built, written or answered from navigates its tree
mod HeadlineNavigableLemmas
-- Numbered lists, and lists that rise
mod HeadlineRisingLemmas
-- The sites of an index, and the symbol that a query about a position asks for
mod HeadlineSiteLemmas
-- The tree of sources and included files is a tree: so the headline applies to what is read from files
pub mod HeadlineTreeLemmas
-- What a run answers, by where it stops
mod IndexingLemmas
-- Faults of a tree exclude one another, and where it is indexed there is none
mod LawLemmas
-- The lines that a loop appends, one after another
mod LineLemmas
-- What a session answers, by where it stops
pub mod SessionLemmas
-- Parts of a tree are shards of its index
mod ShardLemmas
-- What is told beside what couldn't be read
mod ToldBesideLemmas
-- What is to be said of an index, by what it lacks
mod ToldLineOmissionLemmas
-- Why what is told of a tree can't be had
mod ToldTreeRules
-- What couldn't be read, in a report: each once, and unlike all else
mod UnreadLemmas
-- A use that names a type has a target, so each component of a use of a source names an entity
mod UseLawLemmas
