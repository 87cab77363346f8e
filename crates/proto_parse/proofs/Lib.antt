-- Each file is named after the spec or source that it serves.
-- The grammar as data is read as functions on places read it
pub mod Agreement
-- The word that is next chooses the production, and a field or a group is next if nothing else is
pub mod Choices
pub mod Exact
-- The lists of a tree that are never empty
pub mod Filled
pub mod Found
-- What is left of the tokens after a part is a tail of them
pub mod GrammarTailLemmas
-- What is found in the parts of a tree
pub mod PartLemmas
-- How sources are read, on places
pub mod Reading
-- Each step of a loop takes a token
pub mod ReadingFallLemmas
-- Where one more message or group may be inside the others
pub mod DeepLemmas
pub mod DeepFileLemmas
-- Syntax statements: what is behind one that is read, and the fault of one that isn't
pub mod SyntaxFrontLemmas
pub mod RefusedSyntaxLemmas
-- Tokens have at most one fault, and none if they derive a tree
pub mod RefusedLemmas
-- The fault that is met is the one that the tokens have
pub mod RefusedFileLemmas
-- What holds of each of two lists in a row holds of each of both
pub mod SplitLemmas
-- The literals of a syntax statement, joined
pub mod SyntaxJoinedLemmas
pub mod Walk
