-- The marks of comments, behind and before which they may be cut
mod MarkLemmas
-- Where a line may be cut
mod CutLemmas
-- The common indentation, line by line
mod IndentationLemmas
-- The lines of a block comment behind its first
mod OtherLineLemmas
-- Lines joined, one more at a time
mod JoinLemmas
-- Worked texts, by computation
mod CleanExamples
-- What is shown of a text up to its first NUL, and behind it
mod NulLemmas
