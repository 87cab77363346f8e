-- the records of an index
pub use Rattle.scip_records.specs.Range
pub use Rattle.scip_records.specs.Details
pub use Rattle.scip_records.specs.declared.details
pub use Rattle.scip_records.specs.declared.records
pub use Rattle.scip_records.specs.declared.range
-- what bytes are written to and read from
pub use Rattle.streams.specs.Streams
pub use Rattle.streams.specs.StdStreams
-- which package a file's symbols belong to
pub mod Packages
-- the entities that have symbols, and what was chosen for declarations
pub mod Named
pub mod Repeated
pub mod Chosen
-- what is said of declarations if details are asked for
pub mod Detailed
-- what occurs in the document of a source, in which order, and its symbol entries
pub mod Occurs
pub mod OccurrenceOrder
pub mod Entries
-- the same of names in options, where they are asked for
pub mod Options
-- what is asked of files, which uses name no type, and why a document is refused
pub mod Conditions
-- documents, external entries, and the index of a tree
pub mod Indexes
-- the same of what a document is made from
pub mod Makers
-- documents put together, and what is said about why they are not
pub mod Pieces
-- what is made of a part of files
pub mod Parts
-- what is law of them
pub mod Laws
-- what the code lists and marks
pub mod Tables
