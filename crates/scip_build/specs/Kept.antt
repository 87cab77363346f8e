-- What is kept of a tree that was read, and what is told of the rest.
use Rattle.std.specs.Prelude.{◌≡◌, ◌↔◌, ℕ, Bool, Some, List, []}
use Rattle.std.specs.declared.cmp.Ordering.{Ordering}
use Rattle.std.specs.Ordering.{nat_cmp, on, ordering_then}
use Rattle.std.specs.List.{slice_get}
use Rattle.proto_visibility.specs.declared.files.FilePlace.{FilePlace}
use Rattle.proto_visibility.specs.declared.omissions.FileOmission.{FileOmission}
use Rattle.proto_visibility.specs.declared.omissions.FileOmission.TheVariants as left_for
use Rattle.proto_visibility.specs.declared.clash.Duplicates.{Duplicates}
use Rattle.proto_visibility.specs.Absences.{IsMissing}
use Rattle.proto_visibility.specs.Linked.{CanBeLinked}
use Rattle.proto_visibility.specs.Kept.{Omissions, AreOmissions, number_among_all}
use Rattle.scip_model.specs.Conditions.{AllResolve}
use Rattle.scip_model.specs.Indexes.{IsAscendingListOf}
use Rattle.scip_build.specs.declared.fault.FileFault.{FileFault}
use Rattle.scip_build.specs.declared.omission.Omission.{Omission}
use Rattle.scip_build.specs.declared.omission.Omission.TheVariants.{File, Duplicate, MissingImport, Unresolved}
use Rattle.scip_build.specs.declared.omission.Omission.TheVariants.{Ambiguous, OptionGap, Uncertain}
use Rattle.scip_build.specs.Files.{ReadFile}
use Rattle.proto_link.specs.declared.uncertain_use.UncertainUse.{UncertainUse}
use Rattle.scip_build.specs.Keeping.{linked_numbers, linked_of}
use Rattle.scip_build.specs.Linking.{linked_files, HasFault}
use Rattle.proto_visibility.specs.declared.fault.LinkFault.TheVariants as link
use Rattle.scip_build.specs.Documents.{asked_if, AllAreDecided, HaveNoGaps, IsGapAt, IsToldUse, IsUncertainAt}

-- Why the file with this number is left out, as it is told: it can't be read, or one of its names clashes with another
-- of its own, or with one of a file kept before it.
abbrev pub IsLeftFor : (all : List ReadFile) → (number : ℕ) → FileOmission → Omission → Type 0
IsLeftFor all number left_for.Broken told = (fault : FileFault) × HasFault all number fault × (told ≡ File number fault)
IsLeftFor all number (left_for.Duplicate first second) told = told ≡ Duplicate first second

-- a place of a kept file, by the file's number among all
abbrev pub place_among_all : Omissions → FilePlace → FilePlace
place_among_all omissions place = record { file = number_among_all omissions place.file; span = place.span }

-- What is told of files that were read, of which some are left out: just this, each by the fault for which it would be
-- refused, or by the file for which it isn't sure.
pub data IsTold (asks : Bool) (all : List ReadFile) (omissions : Omissions) : Omission → Type 0 where
  -- A file is left out;
  of_file : (number : ℕ) (omission : FileOmission) {told : Omission}
      → slice_get omissions number ≡ Some (Some omission) → IsLeftFor all number omission told
      → IsTold asks all omissions told
  -- an import that has to be there names no file that is kept;
  of_import : (place : FilePlace) → IsMissing (linked_files (linked_of omissions all)) place
      → IsTold asks all omissions (MissingImport (place_among_all omissions place))
  -- a use of a source that is kept names nothing, or what a file that is left out declares;
  of_use : (place : FilePlace) → IsToldUse (linked_files (linked_of omissions all)) place (link.Unresolved place)
      → IsTold asks all omissions (Unresolved (place_among_all omissions place))
  -- such a use is ambiguous.
  of_ambiguous : (place : FilePlace) → IsToldUse (linked_files (linked_of omissions all)) place (link.Ambiguous place)
      → IsTold asks all omissions (Ambiguous (place_among_all omissions place))
  -- A use of a source that is kept names a type, or a name in an option of one a field, but may name another one once a
  -- file that is left out can be read.
  of_uncertain : (uncertain : UncertainUse) (number : ℕ) (omission : FileOmission)
      → IsUncertainAt (asked_if asks (linked_of omissions all)) (linked_of omissions all)
      (linked_files (linked_of omissions all)) uncertain
      → slice_get (linked_numbers omissions) uncertain.behind ≡ Some number
      → slice_get omissions number ≡ Some (Some omission)
      → IsTold asks all omissions (Uncertain (place_among_all omissions uncertain.place) number)
  -- An option of a source that is kept has a gap, if names in options are linked.
  of_gap : (place : FilePlace)
      → IsGapAt (asked_if asks (linked_of omissions all)) (linked_of omissions all)
      (linked_files (linked_of omissions all)) place
      → IsTold asks all omissions (OptionGap (place_among_all omissions place))

-- Where it is told: the file, the place's start and end, and a number for what it is. Of a file that is left out nothing
-- else is told, so where in the file doesn't matter.
abbrev pub Key : Type 0
Key = (ℕ × ℕ) × (ℕ × ℕ)

abbrev pub told_key : Omission → Key
told_key (File number fault) = ((number, 0), (0, 0))
told_key (Duplicate first second) = ((second.file, 0), (0, 0))
told_key (MissingImport place) = ((place.file, place.span.start), (place.span.end, 0))
told_key (Unresolved place) = ((place.file, place.span.start), (place.span.end, 1))
told_key (Ambiguous place) = ((place.file, place.span.start), (place.span.end, 2))
told_key (Uncertain place behind) = ((place.file, place.span.start), (place.span.end, 3))
told_key (OptionGap place) = ((place.file, place.span.start), (place.span.end, 4))

-- by file, then by where it begins and ends, then by what it is
abbrev pub key_cmp : Key → Key → Ordering
key_cmp x y = ordering_then (ordering_then (nat_cmp x.0.0 y.0.0) (nat_cmp x.0.1 y.0.1))
    (ordering_then (nat_cmp x.1.0 y.1.0) (nat_cmp x.1.1 y.1.1))

abbrev pub told_cmp : Omission → Omission → Ordering
told_cmp = on told_key key_cmp

-- Of all that was read this is linked, and this is told of what is left out, each once, in order of file and place.
pub record AreKept (duplicates : Duplicates) (asks : Bool) (all parsed : List ReadFile)
    (told : List Omission) : Type 0 where
  pub omissions : Omissions
  pub left_out : AreOmissions duplicates (linked_files all) omissions
  pub kept : parsed ≡ linked_of omissions all
  pub decided : AllAreDecided (linked_files parsed)
  pub told_is : IsAscendingListOf told_cmp (IsTold asks all omissions) told

-- nothing is told: all are kept, they can be linked, each use of each source names a type, and no option has a gap
pub record IsWithoutFault (duplicates : Duplicates) (asks : Bool) (all parsed : List ReadFile)
    (told : List Omission) : Type 0 where
  pub none : told ≡ []
  pub all_kept : parsed ≡ all
  pub linked : CanBeLinked duplicates (linked_files all)
  pub resolved : AllResolve (linked_files all)
  pub filled : HaveNoGaps (asked_if asks all) all (linked_files all)

-- Nothing is told if and only if a tree wouldn't be refused.
abbrev pub NothingIsToldOfAGoodTree : Type 0
NothingIsToldOfAGoodTree = (duplicates : Duplicates) (asks : Bool) (all parsed : List ReadFile) (told : List Omission)
    → AreKept duplicates asks all parsed told
    → (told ≡ []) ↔ (CanBeLinked duplicates (linked_files all) × AllResolve (linked_files all)
    × HaveNoGaps (asked_if asks all) all (linked_files all))
