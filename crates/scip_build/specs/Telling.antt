-- What is added to a list of what is told.
use Rattle.std.specs.Prelude.{◌≡◌, ◌↔◌, ◌⊎◌, ◌<◌, ◌++◌, ◌∷◌, ℕ, Option, Some, None, List, [], length, map, MatchOption}
use Rattle.std.specs.Prelude.{Bool, false, ◌&&◌, nat_eq, Contains}
use Rattle.std.specs.declared.cmp.Ordering.TheVariants.{Equal}
use Rattle.std.specs.List.{flat_map, slice_get}
use Rattle.std.specs.List.Sorted.{IsStrictlySortedBy}
use Rattle.std.specs.Option.{unwrap_or}
use Rattle.proto_visibility.specs.declared.files.FilePlace.{FilePlace}
use Rattle.proto_visibility.specs.declared.omissions.FileOmission.{FileOmission}
use Rattle.proto_visibility.specs.declared.fault.LinkFault.{LinkFault}
use Rattle.proto_visibility.specs.declared.fault.LinkFault.TheVariants as link
use Rattle.proto_visibility.specs.declared.clash.Duplicates.{Duplicates}
use Rattle.proto_visibility.specs.Files.{File}
use Rattle.proto_link.specs.Targets.{IsUseFault}
use Rattle.proto_link.specs.declared.uncertain_use.UncertainUse.{UncertainUse}
use Rattle.proto_visibility.specs.Kept.{Omissions, IsOmission, AreOmissions}
use Rattle.scip_build.specs.declared.omission.Omission.{Omission}
use Rattle.scip_build.specs.declared.omission.Omission.TheVariants.{MissingImport, Unresolved, Ambiguous}
use Rattle.scip_build.specs.declared.omission.Omission.TheVariants.{OptionGap, Uncertain}
use Rattle.option_link.specs.declared.facts.OptionFacts.{OptionFacts}
use Rattle.scip_build.specs.Documents.{IsUncertainAt}
use Rattle.scip_build.specs.Files.{ReadFile}
use Rattle.scip_build.specs.Linking.{linked_files}
use Rattle.scip_build.specs.Kept.{IsLeftFor, told_cmp}
use Rattle.scip_build.specs.Keeping.{linked_numbers, linked_of}

-- the list has what it had, and besides just these
abbrev pub Adds : (Omission → Type 0) → (old new : List Omission) → Type 0
Adds IsNew old new = (x : Omission) → Contains new x ↔ (Contains old x ⊎ IsNew x)

-- it is of this kind by one of the first so many elements, and its index
pub record FromFront {X : Type 0} (IsOf : ℕ → X → Omission → Type 0) (xs : List X) (count : ℕ)
    (x : Omission) : Type 0 where
  pub index : ℕ
  pub element : X
  pub within : index < count
  pub stands : slice_get xs index ≡ Some element
  pub is : IsOf index element x

-- the file with this number is left out, for this, as it is told
abbrev pub IsLeftIf : (all : List ReadFile) → (number : ℕ) → Option FileOmission → Omission → Type 0
IsLeftIf all number omission told = MatchOption omission ⊥ (λ left. IsLeftFor all number left told)

-- a file may be left out for this
abbrev pub IsSomeOmission : List File → (number : ℕ) → Option FileOmission → Type 0
IsSomeOmission files number omission =
    (duplicates : Duplicates) × (omissions : Omissions) × IsOmission duplicates files omissions number omission

-- and these may be what is left out
abbrev pub AreSomeOmissions : List File → Omissions → Type 0
AreSomeOmissions files omissions = (duplicates : Duplicates) × AreOmissions duplicates files omissions

-- what a list of numbers has at a number; the number itself after its end
abbrev pub number_in : List ℕ → ℕ → ℕ
number_in numbers number = unwrap_or (slice_get numbers number) number

abbrev pub place_by : List ℕ → FilePlace → FilePlace
place_by numbers place = record { file = number_in numbers place.file; span = place.span }

abbrev pub told_import : List ℕ → FilePlace → Omission
told_import numbers place = MissingImport (place_by numbers place)

-- what is told of a use that names nothing for this
abbrev pub told_use : List ℕ → LinkFault → List Omission
told_use numbers (link.Unresolved place) = Unresolved (place_by numbers place) ∷ []
told_use numbers (link.Ambiguous place) = Ambiguous (place_by numbers place) ∷ []
told_use numbers (link.Broken number) = []
told_use numbers (link.Duplicate first second) = []
told_use numbers (link.MissingImport place) = []
told_use numbers link.Memory = []

-- what is told of a use, or of a name in an option, that may name another thing
abbrev pub told_uncertain : List ℕ → UncertainUse → Omission
told_uncertain numbers uncertain =
    Uncertain (place_by numbers uncertain.place) (number_in numbers uncertain.behind)

-- what is told of an option that has a gap
abbrev pub told_gap : List ℕ → FilePlace → Omission
told_gap numbers place = OptionGap (place_by numbers place)

-- these are the uses of files, and the names in their options, that may name another thing
abbrev pub AreUncertain : (asked : Option (List OptionFacts)) → List ReadFile → List File → List UncertainUse → Type 0
AreUncertain asked parsed files all =
    (uncertain : UncertainUse) → Contains all uncertain ↔ IsUncertainAt asked parsed files uncertain

-- a file in which one of these places is has a use that names nothing for this
pub record IsFaultAt (files : List File) (places : List FilePlace) (fault : LinkFault) : Type 0 where
  pub place : FilePlace
  pub listed : Contains places place
  pub is : IsUseFault files place.file fault

-- whether a place is in the file with this number
abbrev pub is_in : FilePlace → Option ℕ → Bool
is_in place None = false
is_in place (Some number) = nat_eq number place.file

-- whether two places are one
abbrev pub is_one_place : FilePlace → FilePlace → Bool
is_one_place a b = nat_eq a.file b.file && (nat_eq a.span.start b.span.start && nat_eq a.span.end b.span.end)

-- of the files in which these places are just these are why a use names nothing
abbrev pub AreUseFaults : List File → List FilePlace → List LinkFault → Type 0
AreUseFaults files places faults = (fault : LinkFault) → Contains faults fault ↔ IsFaultAt files places fault

-- no two of a list are told at one key
abbrev pub HaveOwnKeys : List Omission → Type 0
HaveOwnKeys told = (a b : Omission) → Contains told a → Contains told b → told_cmp a b ≡ Equal → a ≡ b

-- the same, in order, each once
pub record AreInOrder (told once : List Omission) : Type 0 where
  pub same : HaveOwnKeys told → (omission : Omission) → Contains once omission ↔ Contains told omission
  pub rising : IsStrictlySortedBy told_cmp once

abbrev pub all_told : (left : List Omission) → (numbers : List ℕ) → List FilePlace → List LinkFault
    → List UncertainUse → List FilePlace → List Omission
all_told left numbers imports faults uncertain gaps =
    (((left ++ map (told_import numbers) imports) ++ flat_map (told_use numbers) faults)
    ++ map (told_uncertain numbers) uncertain) ++ map (told_gap numbers) gaps

-- the files as they are linked, their numbers among all, and what is told of those that are left out
pub record AreKeptFiles (duplicates : Duplicates) (all parsed : List ReadFile) (numbers : List ℕ)
    (left : List Omission) : Type 0 where
  pub omissions : Omissions
  pub left_out : AreOmissions duplicates (linked_files all) omissions
  pub kept : parsed ≡ linked_of omissions all
  pub numbers_are : numbers ≡ linked_numbers omissions
  pub left_are : Adds (FromFront (IsLeftIf all) omissions (length omissions)) [] left
