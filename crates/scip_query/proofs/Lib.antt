-- Each file is named after the spec or source that it serves.
-- Answers, and their texts
pub mod AnswerLemmas
-- The grammar of commands
mod CommandGrammarLemmas
-- The command of a line is what the grammar says
mod CommandLemmas
-- Lines of bytes (`lines_of`), and what is kept of one (`kept_line`)
mod CommandLineLemmas
-- Conversations: what stands a byte later, what a refusal leaves, and what is due at the end (`ConversingSteps`)
mod ConversationLemmas
-- Groups of places by symbol, one after another in the order of their symbols, are a table
mod GroupLemmas
-- The first in a table that passes a test is, of those that pass, the first listed than which none is less
mod InnermostLemmas
-- Outlines: the order, the symbols that a document defines, and symbols around one
mod OutlineLemmas
-- Fronts: sorted texts that begin as another does, and the first of them
mod FrontLemmas
-- What is answered where nothing is found
-- A run of a table: what compares as equal, which stands together where the table rises
mod RunLemmas
-- Symbol entries and their places
mod SearchEntryLemmas
-- Answers in JSON have no floats, and are read back
pub mod JsonLemmas
-- What a test keeps of occurrences and entries, one after another
pub mod NamedLemmas
-- What a text finds: the order, and the documents one after another
pub mod FindingLemmas
-- Texts of outlines
mod MoreAnswerLemmas
-- The grammar of more commands
mod MoreCommandLemmas
-- The longest end of a text in which a byte occurs at most so often
mod NameLemmas
-- Ends of texts, and the nearest of sites
mod NearestLemmas
-- Places and the sites that they stand for
mod SiteLemmas
-- A list has one sorted order that keeps the order of what compares as equal
mod SortingLemmas
-- The orders of tables, and lists of numbers and of tables one longer
pub mod TableLemmas
-- Two lists of which each element of one stands for the element of the other: what tests keep and find in them
mod TableZipLemmas
