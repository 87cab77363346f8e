-- What loops have found
pub mod LoopLemmas
pub mod FactLemmas
-- Lists whose keys rise: spans, uses, and what is at places
pub mod KeyLemmas
pub mod SpanLemmas
pub mod UseLemmas
pub mod PlaceLemmas
pub mod DefaultLemmas
-- What is found by names
pub mod TableLemmas
pub mod KnownLemmas
pub mod OnlyLemmas
pub mod SoughtLemmas
pub mod OwnerLemmas
pub mod ToldLemmas
pub mod MarkLemmas
pub mod PackageLemmas
pub mod LookupLemmas
pub mod OuterLemmas
pub mod JoinLemmas
pub mod PathLemmas
-- What fields give, what names name and what they are looked up in is one thing
pub mod TypeLemmas
pub mod TypeAtLemmas
pub mod TypeListLemmas
pub mod FieldLemmas
pub mod BesideLemmas
pub mod MemberLemmas
pub mod MessageLemmas
pub mod KnownFieldLemmas
pub mod SaidLemmas
pub mod MessageKindLemmas
pub mod NameLemmas
pub mod OwnFieldLemmas
pub mod WordLemmas
pub mod ExtensionLemmas
pub mod ItemLemmas
pub mod TargetNameLemmas
pub mod ValueLemmas
pub mod RootLemmas
pub mod ContextLemmas
pub mod TargetLemmas
pub mod ReachLemmas
-- Names are named where the rule gives them something
pub mod RuleLemmas
-- Options have one gap at most
pub mod GapLemmas
-- What names give
pub mod PlaceGivesLemmas
pub mod NoneInLemmas
pub mod GivenFieldLemmas
pub mod GivingLemmas
-- What all names of an option name
pub mod FitLemmas
pub mod FrontLemmas
pub mod PartLemmas
-- Which of them may name another field
pub mod DoubtLemmas
pub mod FoundAllLemmas
-- Names in options of a part of files: declarations by their places, and what the names name
pub mod PartPlaceLemmas
pub mod PartContextLemmas
pub mod PartItemLemmas
pub mod PartNameLemmas
pub mod PartTargetLemmas
-- What is known of files with facts is known among mended files
mod CertainMendedLemmas
-- Names in options that aren't in doubt name what they named, however files are mended
pub mod CertainLemmas
