-- what is written of a text
pub mod Output
-- why a run stops, the line that says so, and the status that a program then ends with
pub mod Faults
pub mod Statuses
pub mod FaultTexts
pub mod Lines
pub mod FaultLines
pub mod FileLaws
-- what is added to that line if it is to be explained
pub mod Required
pub mod Explanations
-- what is reported of what an index lacks, and of what couldn't be read
pub mod Unread
pub mod ToldLines
-- what a report tells of it
pub mod Findings
pub mod FindingLaws
-- and what is told of a tree that is refused
pub mod ToldTrees
-- the index of a tree and its bytes
pub mod Indexes
pub mod Writing
pub mod IndexLaws
pub mod UseLaws
pub mod NameLaws
-- the listing of one source
pub mod DumpText
pub mod Dump
pub mod DumpLaws
-- answers to commands about the index of a tree
pub mod Sessions
pub mod Conversing
-- a tree that is indexed in parts
pub mod Shards
-- the headline: the bytes decode to one index, and queries over it are exact
pub mod Headline
