-- Each file is named after the spec or source that it serves.
-- The comments that lead a declaration, by their places in the list of comments
pub mod CommentLeadingLemmas
-- Where a declaration begins, with the comments that lead it
pub mod CommentStartLemmas
-- The texts of several comments
pub mod CommentTextLemmas
-- The comment that trails a declaration: the first one behind its closing token
pub mod CommentTrailingLemmas
-- How the tokens of a declaration are found, and which is the last
pub mod DetailLemmas
-- a detail's extent begins and ends between characters
pub mod ExtentLemmas
-- A file's declarations, one for each outline
pub mod FactLemmas
-- The places of a file's facts are parts of its text, as the spans of its tree are
pub mod FactPartLemmas
-- Full names in two parts: which are the same, and what they are hashed by
pub mod FullNameLemmas
-- String literals may be cut behind their first quote and before their last one
pub mod ImportLiteralLemmas
-- What holds a declaration of a file is declared there too, and full names are those of the scopes on the path
pub mod LawAncestorLemmas
-- A file's details are the only ones
pub mod LawDetailLemmas
-- A file's facts and comment texts are the only ones
pub mod LawLemmas
-- What a file's facts tell has places of its own: the components of uses stand apart from names, and no import begins
-- where one of those does
pub mod LawPlaceLemmas
-- How many comments end on lines before that of an offset
pub mod LayoutAboveLemmas
-- The lines above a token that are free of other tokens, and the comments on them
pub mod LayoutFreeLemmas
-- How tokens in order stand on the lines of a text
pub mod LayoutLemmas
-- Lines that end between two offsets
pub mod LayoutLineEndLemmas
-- Lines of offsets, and what stands in order
pub mod LayoutLineLemmas
-- How many of a list in order begin before an offset, known by the last that does and the first that doesn't
pub mod LayoutNearLemmas
-- Where the line behind that of an offset starts
pub mod LayoutNextStartLemmas
-- The components of a plain name, which has no dot, and of one behind a scope; the prefixes that they make
pub mod NameComponentLemmas
-- Declared names are spelled as they stand, but for those of groups' fields, and aren't empty
pub mod NameLemmas
-- The prefixes of a full name are packages or declarations of its file
pub mod NamePrefixLemmas
-- A name in small letters is as simple as the name, and an identifier where the name is one
pub mod NameSmallLemmas
-- The names of a file's package and those on the paths to its declarations are identifiers
pub mod OutlineIdentifierLemmas
-- What is left of a block's items behind an item
pub mod OutlineLemmas
-- Declared names, the components of uses, and imports stand in order, as the marks of a walk do; and the components of
-- uses stand apart from the names
pub mod OutlineOrderLemmas
-- The declared names of a part of the tree and the components of its uses are picked from its marks, in their order
pub mod OutlinePickLemmas
-- Each declaration has a simple name in a scope of its file
pub mod OutlineScopedLemmas
-- The scope around one
pub mod ScopeLemmas
-- The spans of a tree are spans of its tokens
pub mod SpanLemmas
-- What holds of the spans of identifiers holds of the marks of names
pub mod SpanMarkLemmas
-- The uses of a file have components, where the names of its tree do
pub mod UseFilledLemmas
-- The scope of a use is that of its file's package or of a declaration
pub mod UseScopeLemmas
-- What is found on a walk is what is found part by part
pub mod WalkedLemmas
