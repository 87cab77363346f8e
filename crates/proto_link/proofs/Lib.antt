-- Each file is named after the spec or source that it serves.
-- Proofs of the laws
pub mod LawLemmas
-- What is left out of files is one list
pub mod LawOmissionLemmas
-- Where items and imports stand there is one, and in files without a clash a full name has one declaration
pub mod LawOneItemLemmas
-- Where no file is left out and no names clash, a name that a use resolves to has an owner
pub mod LawOwnerLemmas
-- Lookup along scopes
pub mod LookupLemmas
-- What a use names if files without facts are mended
pub mod MendedLemmas
-- A use names in a part of files what it names in the whole
pub mod PartLemmas
-- From lookups to what a use names
pub mod ResolveLemmas
-- What the last components of a name that a use resolves to name
pub mod TargetLemmas
-- One entity a name, one target a use, one clash, one absence, one refusal
pub mod TargetOneLemmas
-- Why uses name nothing: each for one reason at most
pub mod UseFaultLemmas
-- Lists of uncertain uses
pub mod DoubtLemmas
-- Which scopes are farther out than another one, and which uses are found there
pub mod UncertainLemmas
-- The scopes of uses, from each out to the package
pub mod UseScopeLemmas
-- Who gives a name in a scope gives the scope's name
pub mod ScopePrefixLemmas
-- A use that isn't uncertain names what it named, and one that is may not
pub mod CertainLemmas
pub mod MayChangeLemmas
