-- Which files of a tree with faults are left out, and which are kept.
use Rattle.std.specs.Prelude.{◌≡◌, ◌<◌, ◌↔◌, ◌⊎◌, ℕ, zero, suc, true, Option, Some, None, List, [], ◌∷◌, ◌++◌, length}
use Rattle.std.specs.Prelude.{All, map}
use Rattle.std.specs.List.{slice_get}
use Rattle.proto_visibility.specs.declared.files.FilePlace.{FilePlace}
use Rattle.proto_visibility.specs.declared.clash.Duplicates.{Duplicates}
use Rattle.proto_visibility.specs.declared.clash.Duplicates.TheVariants.{Refuse, Keep}
use Rattle.proto_visibility.specs.declared.omissions.FileOmission.{FileOmission}
use Rattle.proto_visibility.specs.declared.omissions.FileOmission.TheVariants.{Broken, Duplicate}
use Rattle.proto_visibility.specs.Files.{File, HaveOwnPaths, IsPresent, IsSource}
use Rattle.proto_visibility.specs.Reaches.{Reaches}
use Rattle.proto_visibility.specs.Clashes.{BeforeBy, Item, IsItemBy, ClashBy, NoClashBy}
use Rattle.proto_visibility.specs.Absences.{IsUnreadBy}
use Rattle.proto_visibility.specs.Linked.{HaveClearNames}

-- For each file, by its number, why it is left out; `None` for a file that is kept.
abbrev pub Omissions : Type 0
Omissions = List (Option FileOmission)

-- the file with this number is kept
abbrev pub IsKeptFile : Omissions → (number : ℕ) → Type 0
IsKeptFile omissions number = slice_get omissions number ≡ Some None

-- A file counts if it is a source, or if a source that is kept reaches it and it isn't left out before.
pub data IsCounted (files : List File) (omissions : Omissions) : (number : ℕ) → Type 0 where
  is_source : {number : ℕ} → IsSource files number → IsCounted files omissions number
  is_reached : {source number : ℕ} → IsSource files source → IsKeptFile omissions source → Reaches files source number
      → IsPresent files number → IsCounted files omissions number

-- The one file is taken before the other: sources come before other files, and each kind in order of numbers. So
-- whether a source is left out has nothing to do with files that aren't sources.
pub data IsTakenBefore (files : List File) : (number other : ℕ) → Type 0 where
  of_sources : {number other : ℕ} → IsSource files number → IsSource files other → number < other
      → IsTakenBefore files number other
  source_first : {number other : ℕ} → IsSource files number → (IsSource files other → ⊥)
      → IsTakenBefore files number other
  of_others : {number other : ℕ} → (IsSource files number → ⊥) → (IsSource files other → ⊥) → number < other
      → IsTakenBefore files number other

abbrev pub Precedes : List File → (first second : FilePlace) → Type 0
Precedes files = BeforeBy (IsTakenBefore files)

-- An item that the file with this number meets: one of its own, or of an earlier file that is kept.
pub record IsMetBy (IsItem : Item → Type 0) (Earlier : ℕ → ℕ → Type 0) (omissions : Omissions) (number : ℕ)
    (item : Item) : Type 0 where
  pub is_item : IsItem item
  pub meets : (item.place.file ≡ number)
      ⊎ (Earlier item.place.file number × IsKeptFile omissions item.place.file)

-- the names of which files before it the file meets: of all that are taken before, or of none
abbrev pub Meets : Duplicates → List File → (earlier number : ℕ) → Type 0
Meets Refuse files = IsTakenBefore files
Meets Keep files = λ earlier number. ⊥

-- of files that count, as they are taken
abbrev pub IsMet : Duplicates → List File → Omissions → (number : ℕ) → Item → Type 0
IsMet duplicates files omissions =
    IsMetBy (IsItemBy files (IsCounted files omissions)) (Meets duplicates files) omissions

-- Whether a file is left out, and why. Files are taken one by one. Left out is one that counts and has no facts, and
-- one of which an item clashes with another of its own, or, if all files are one namespace, with one of a file that was
-- kept before it: for the first such clash. Files that don't count give no items, so they are kept.
abbrev pub IsOmission : Duplicates → List File → Omissions → (number : ℕ) → Option FileOmission → Type 0
IsOmission duplicates files omissions number None =
    (IsUnreadBy files (IsCounted files omissions) number → ⊥)
    × NoClashBy (Precedes files) (IsMet duplicates files omissions number)
IsOmission duplicates files omissions number (Some Broken) = IsUnreadBy files (IsCounted files omissions) number
IsOmission duplicates files omissions number (Some (Duplicate first second)) =
    ClashBy (Precedes files) (IsMet duplicates files omissions number) first second

-- what is left out of the files
pub record AreOmissions (duplicates : Duplicates) (files : List File) (omissions : Omissions) : Type 0 where
  pub one_each : length omissions ≡ length files
  pub each : (number : ℕ) (omission : Option FileOmission) → slice_get omissions number ≡ Some omission
      → IsOmission duplicates files omissions number omission

-- what is kept of a list that has an entry for each file, in order
abbrev pub kept_of : {X : Type 0} → Omissions → List X → List X
kept_of [] xs = []
kept_of (omission ∷ omissions) [] = []
kept_of (None ∷ omissions) (x ∷ xs) = x ∷ kept_of omissions xs
kept_of (Some omission ∷ omissions) (x ∷ xs) = kept_of omissions xs

-- what is left out of it
abbrev pub left_of : {X : Type 0} → Omissions → List X → List X
left_of [] xs = []
left_of (omission ∷ omissions) [] = []
left_of (None ∷ omissions) (x ∷ xs) = left_of omissions xs
left_of (Some omission ∷ omissions) (x ∷ xs) = x ∷ left_of omissions xs

-- the file, left out: of what it is there are only the names that it gives where it is seen
abbrev pub as_left_out : File → File
as_left_out file =
    record {
      path = file.path;
      facts = file.facts;
      is_included = file.is_included;
      is_left_out = true;
      links_options = file.links_options;
    }

-- What is linked of files with faults: those that are kept, and behind them, as such, those that are left out.
abbrev pub linked_of : Omissions → List File → List File
linked_of omissions files = kept_of omissions files ++ map as_left_out (left_of omissions files)

-- the number that the kept file with this number has among all files
abbrev pub number_among_all : Omissions → (number : ℕ) → ℕ
number_among_all [] number = number
number_among_all (None ∷ omissions) zero = zero
number_among_all (None ∷ omissions) (suc number) = suc (number_among_all omissions number)
number_among_all (Some omission ∷ omissions) number = suc (number_among_all omissions number)

-- nothing is left out
abbrev pub AreAllKept : Omissions → Type 0
AreAllKept omissions = All (λ omission. omission ≡ None) omissions

-- The laws. What is kept of files is one list.
abbrev pub OneKept : Type 0
OneKept = (duplicates : Duplicates) (files : List File) (omissions others : Omissions)
    → AreOmissions duplicates files omissions → AreOmissions duplicates files others
    → (number : ℕ) → IsKeptFile omissions number ↔ IsKeptFile others number

-- Nothing is left out if and only if the reachable files have facts and no names clash.
abbrev pub NothingIsLeftOutOfGoodFiles : Type 0
NothingIsLeftOutOfGoodFiles = (duplicates : Duplicates) (files : List File) (omissions : Omissions)
    → AreOmissions duplicates files omissions → AreAllKept omissions ↔ HaveClearNames duplicates files

-- The files that are kept can be linked, with those that are left out behind them: they have paths of their own, the
-- reachable ones have facts, and no names clash.
abbrev pub KeptFilesAreClear : Type 0
KeptFilesAreClear = (duplicates : Duplicates) (files : List File) (omissions : Omissions)
    → AreOmissions duplicates files omissions → HaveOwnPaths files
    → HaveOwnPaths (linked_of omissions files) × HaveClearNames duplicates (linked_of omissions files)
