-- Each file is named after the spec or source that it serves.
-- Nothing is told of a tree without faults, and of no other
mod BuildLawGoodTreeLemmas
-- Where nothing is left out for a name that is given twice, the same is built if several files may give one name
mod BuildLawKeepLemmas
-- A tree is built, or has one fault of its files
mod BuildLawLemmas
-- What is built by the same choices is one, and where one choice alone may come for what is seen, the choices are
mod BuildLawOneBuiltLemmas
-- A refusal of a stage is one of the whole
mod BuildsRefusalLemmas
-- What is built of files that were read
mod BuiltLemmas
-- One more choice, for the next declaration
mod ChosenLemmas
-- What the second phase answers
mod DocumentLemmas
-- What is kept of documents, in a form
mod KeptLemmas
-- What is told of a tree: just what is left out and what has no target, each once
mod KeptToldLemmas
-- What holds of the files of a tree holds of those that are linked
pub mod KeptTreeLemmas
-- Uses of kept files that may name another type once a file that is left out can be read
mod KeptUncertainLemmas
-- Names in options that may then name another field
pub mod UncertainNameLemmas
-- A use of a kept file names, as files are linked, what it names in the whole tree
mod KeptUseLemmas
-- A use that isn't told as uncertain names the same, however files are mended
mod CertainUseLemmas
-- Proofs of the laws
mod LawLemmas
-- Files as they are linked
pub mod LinkingLemmas
-- What a stage may refuse, for functions that refuse
pub mod LinkingRefusalRules
-- What the phase answers, file by file
mod ParsedFileLemmas
-- The options of linked files, if names in options are linked
pub mod LinkedOptionLemmas
-- What is read of a file beside its facts
mod OptionReadingLemmas
-- Where options have gaps is the same of files that were read alike
mod OptionGapLemmas
-- What is read of one tree twice is the same, whatever is chosen
mod ReadAlikeLemmas
-- Files that were read are ready for their documents
mod ReadyLemmas
-- What is made by two lists of what is repeated that have the same names is the same
mod SameNamesLemmas
-- What is added to a list of what is told
mod TellingAddLemmas
-- The uses that name no type, of all sources
mod UnresolvedUseLemmas
-- Uses that are told, each by why it names nothing
mod ToldUseLemmas
-- The files of a tree as they are read are a tree
pub mod AsReadLemmas
-- One list of choices, where one choice alone may come
mod ChosenAlikeLemmas
-- What is read of files of a part of a tree, and what is built of it, as of the whole
mod PartFileLemmas
mod PartTreeLemmas
mod PartGoodLemmas
pub mod PartBuiltLemmas
mod PartApartLemmas
mod PartRefusedLemmas
mod PartLawLemmas
-- Documents stay in order where they are placed
mod PlacingLemmas
