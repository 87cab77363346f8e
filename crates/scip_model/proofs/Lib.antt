-- Each file is named after the spec or source that it serves.
-- What declarations are in, and the ranges over all of them
pub mod AroundLemmas
-- What the facts of a source give to the functions that list its occurrences
pub mod ConditionLemmas
-- Sources of files that can be linked: they count, and have facts
pub mod ConditionLinkedLemmas
-- The uses of a source that name no type, and what follows where there are none
pub mod ConditionUnresolvedLemmas
-- The lists of entries: what they have
pub mod EntryLemmas
-- Entries that have numbers
pub mod EntryNumberLemmas
-- The entries of a source, in the code's list: just those that it has, and no two with one symbol
pub mod EntrySourceLemmas
-- The entries of declarations of included files that uses in sources name: just those, and no two with one symbol
pub mod ExternalSymbolEntryLemmas
-- Which declarations of included files the uses in sources name
pub mod ExternalSymbolLemmas
-- Pairs of numbers in order, each once
pub mod ExternalSymbolPairLemmas
pub mod ExternalSymbolSeenLemmas
-- The ascending list of a set: what a sort leaves of elements that differ
pub mod IndexSortLemmas
-- Of a source's facts: its lists of occurrences ascend, and merged they are the list of what occurs
pub mod ListingDocumentLemmas
-- The numbers that are kept of what the names in a document's options named
pub mod KnownPartLemmas
-- The lists that make up a document's occurrences have what they give, and ascend
pub mod ListingLemmas
-- What the parts of a target name has symbols
pub mod ListingNameableLemmas
-- Merging two ascending lists of which the first goes before, and what a sort leaves of a list with doubles
pub mod MergeApartLemmas
-- Merging two ascending lists
pub mod MergeLemmas
-- Declared names and the components of the package's name begin at places of their own
pub mod NameOrderLemmas
-- In files that can be linked a symbol's text is that of one entity
pub mod NamedApartLemmas
-- The packages and declarations of facts have symbols
pub mod NamedEntityLemmas
-- What parts of a full name name
pub mod NamedLemmas
-- Of what occurs in a document no two tie: over one range there is one role
pub mod OccurTieLemmas
-- The order of occurrences is a total one, in which those are tied that have one range and one symbol
pub mod OccurrenceOrderLemmas
-- The lists that a document's occurrences are made of have just what occurs
pub mod OccursLemmas
-- Texts in one, one behind the other
pub mod OwnTextJoinedLemmas
-- The texts of the symbols of a file's own declarations
pub mod OwnTextLemmas
-- Which declarations of included files the names in options of sources name
pub mod OptionExternalLemmas
-- The gaps of options
pub mod OptionGapLemmas
-- What occurs of names in options
pub mod OptionOccurLemmas
-- What names in options name, by their parts
pub mod OptionTargetLemmas
-- The packages of files, and symbols in several packages
pub mod PackageLemmas
-- What two trees share has one symbol in both
pub mod PackageMeetLemmas
-- What is chosen, lists in order and details, of what is alike
pub mod PartChoiceLemmas
-- What is made of a part of files is what is made of the whole, with and without names in options
pub mod PartLemmas
pub mod PartOptionLemmas
-- No document has an entry of the symbol of an external entry
pub mod PartUndefinedLemmas
-- Pieces of an index: which paths are marked, and what a sort by path leaves
pub mod PieceLemmas
-- What there is one of: merged lists of pieces, documents of a source, lists of external entries, indexes
pub mod PieceOneListLemmas
-- Pieces are refused for one reason
pub mod PieceRefusalLemmas
-- Texts with numbers, and what is planned by them
pub mod PlanLemmas
-- Which outermost declarations an earlier file has, too, as files are taken one after the other
pub mod RepeatedLemmas
-- The full names of outermost declarations, as they are spelled
pub mod RepeatedNameLemmas
-- No two files have one namespace, and none is an identifier
pub mod RepeatedNamespaceLemmas
-- The order of texts in two parts
pub mod SymbolTableOrderLemmas
-- Lists that go side by side, and what is found by the linker's answer
pub mod TargetLemmas
