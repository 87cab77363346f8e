-- positions, occurrences and entries of an index, and tables of them
pub mod Positions
pub mod Sites
pub mod Tables
pub mod Views
-- what is asked, and what is due
pub mod OccurrenceAt
pub mod References
pub mod Documentation
pub mod BySymbol
pub mod Nearest
pub mod Sorting
pub mod Entries
pub mod Kinds
pub mod Outline
pub mod Names
pub mod Finding
pub mod Named
pub mod Outcomes
-- commands
pub mod Commands
pub mod CommandReading
pub mod CommandViews
pub mod MoreCommands
pub mod MoreCommandReading
pub mod AskedInLine
-- their answers
pub mod Answers
pub mod AnswerText
pub mod JsonAnswers
pub mod MoreAnswers
pub mod MoreViews
pub mod Answering
pub mod AnswerFaults
pub mod Conversing
