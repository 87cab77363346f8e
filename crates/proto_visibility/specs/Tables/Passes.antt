-- The steps by which files are left out: those without facts, then those with a clash, by one pass over the items, or
-- each for its own.
use Rattle.std.specs.Prelude.{◌≡◌, ◌<◌, ◌≤◌, ◌⊎◌, ℕ, Option, Some, List, ◌||◌, false, length, MatchOption, Contains}
use Rattle.std.specs.Prelude.{slice_set}
use Rattle.std.specs.List.{slice_get}
use Rattle.std.specs.HashMap.{HashMap}
use Rattle.proto_visibility.specs.declared.files.FilePlace.{FilePlace}
use Rattle.proto_visibility.specs.declared.omissions.FileOmission.{FileOmission}
use Rattle.proto_visibility.specs.declared.omissions.FileOmission.TheVariants.{Broken, Duplicate}
use Rattle.proto_visibility.specs.Files.{File, IsSource}
use Rattle.proto_visibility.specs.Clashes.{Before, BeforeBy, Item, IsOwnItem, ClashBy, NoClashBy}
use Rattle.proto_visibility.specs.Absences.{IsUnreadBy}
use Rattle.proto_visibility.specs.Kept.{Omissions, IsKeptFile, IsMetBy}
use Rattle.proto_visibility.specs.Tables.ClashTables.{index_in}

-- a file of a row that has no facts is left out, and of any other file it is said what was said of it before
abbrev pub IsUnreadOmitted : List File → (row : List ℕ) → (old new : Omissions) → (number : ℕ) → Type 0
IsUnreadOmitted files row old new number =
    (IsUnreadBy files (Contains row) number × (slice_get new number ≡ Some (Some Broken)))
    ⊎ ((IsUnreadBy files (Contains row) number → ⊥) × (slice_get new number ≡ slice_get old number))

-- so it is with each file
pub record AreUnreadOmitted (files : List File) (row : List ℕ) (old new : Omissions) : Type 0 where
  pub size : length new ≡ length old
  pub each : (number : ℕ) → IsUnreadOmitted files row old new number

-- a source that is kept
abbrev pub IsKeptSource : List File → Omissions → (number : ℕ) → Type 0
IsKeptSource files omissions number = IsSource files number × IsKeptFile omissions number

-- a file of a row that has a clash of its own is left out for it, and of any other file it is said what was said before
abbrev pub IsOwnClashOmitted : List File → (row : List ℕ) → (old new : Omissions) → (number : ℕ) → Type 0
IsOwnClashOmitted files row old new number =
    ((first : FilePlace) × (second : FilePlace) × Contains row number
    × ClashBy Before (IsOwnItem files number) first second
    × (slice_get new number ≡ Some (Some (Duplicate first second))))
    ⊎ ((Contains row number → NoClashBy Before (IsOwnItem files number))
    × (slice_get new number ≡ slice_get old number))

-- so it is with each file
pub record AreOwnClashesOmitted (files : List File) (row : List ℕ) (old new : Omissions) : Type 0 where
  pub size : length new ≡ length old
  pub each : (number : ℕ) → IsOwnClashOmitted files row old new number

-- The file with this number is left out for a clash of these items, which are its own; or nothing changes.
abbrev pub IsOwnStep : (IsItem : Item → Type 0) → (number : ℕ) → (old new : Omissions) → Type 0
IsOwnStep IsItem number old new =
    ((first : FilePlace) × (second : FilePlace) × ClashBy Before IsItem first second
    × (new ≡ slice_set old number (Some (Duplicate first second))))
    ⊎ (NoClashBy Before IsItem × (new ≡ old))

-- the file with this number is left out for a clash
pub data IsOutByClash (Earlier : ℕ → ℕ → Type 0) (IsItem : Item → Type 0) (omissions : Omissions) (number : ℕ)
    : FileOmission → Type 0 where
  by_clash : {first second : FilePlace} → ClashBy (BeforeBy Earlier) (IsMetBy IsItem Earlier omissions number) first second
      → IsOutByClash Earlier IsItem omissions number (Duplicate first second)

-- it is left out for this clash, or it has none
abbrev pub IsClashOmission : (Earlier : ℕ → ℕ → Type 0) → (IsItem : Item → Type 0) → Omissions → (number : ℕ)
    → Option FileOmission → Type 0
IsClashOmission Earlier IsItem omissions number omission =
    MatchOption omission (NoClashBy (BeforeBy Earlier) (IsMetBy IsItem Earlier omissions number))
    (IsOutByClash Earlier IsItem omissions number)

-- those left out at the start stay so, and of the others those with a clash are left out, too
pub record AreClashesOmitted (Earlier : ℕ → ℕ → Type 0) (items : List Item) (start omissions : Omissions)
    : Type 0 where
  pub size : length omissions ≡ length start
  pub stays : (number : ℕ) (out : FileOmission) → slice_get start number ≡ Some (Some out)
      → slice_get omissions number ≡ Some (Some out)
  pub told : (number : ℕ) (omission : Option FileOmission) → IsKeptFile start number
      → slice_get omissions number ≡ Some omission
      → IsClashOmission Earlier (Contains items) omissions number omission

-- the item's file is kept so far
abbrev pub IsOpen : Omissions → Item → Type 0
IsOpen omissions item = IsKeptFile omissions item.place.file

abbrev pub IsOpenAt : List Item → Omissions → (index : ℕ) → Type 0
IsOpenAt items omissions index = (item : Item) × (slice_get items index ≡ Some item) × IsOpen omissions item

abbrev pub HasName : List Item → (name : List ℕ) → (index : ℕ) → Type 0
HasName items name index = (item : Item) × (slice_get items index ≡ Some item) × (item.full_name ≡ name)

-- no two of the first so many items of open files clash
abbrev pub NoneClash : List Item → Omissions → (count : ℕ) → Type 0
NoneClash items omissions count = (j k : ℕ) (a b : Item) → j < k → k < count → slice_get items j ≡ Some a
    → slice_get items k ≡ Some b
    → IsOpen omissions a → IsOpen omissions b → a.full_name ≡ b.full_name
    → (a.is_declaration || b.is_declaration) ≡ false

-- one of the first so many items is of the file with this number, which is left out for this clash
abbrev pub IsTold : (Earlier : ℕ → ℕ → Type 0) → List Item → (count : ℕ) → Omissions → (number : ℕ) → FileOmission
    → Type 0
IsTold Earlier items count omissions number out =
    (index : ℕ) × (item : Item) × (index < count) × (slice_get items index ≡ Some item) × (item.place.file ≡ number)
    × IsOutByClash Earlier (Contains items) omissions number out

-- the map has an index at the name, that of an open item, which is this one or before it
abbrev pub IsFirst : {S : Type 0} → List Item → Omissions → HashMap (List ℕ) ℕ S → (name : List ℕ) → (index : ℕ)
    → Type 0
IsFirst items omissions names name index =
    (first : ℕ) × (index_in names name ≡ Some first) × (first ≤ index) × IsOpenAt items omissions first

-- The pass over the first so many items: the map has for each name the first item of an open file, or one of a file
-- that was left out.
pub record ArePassed {S : Type 0} (Earlier : ℕ → ℕ → Type 0) (items : List Item) (start : Omissions) (count : ℕ)
    (omissions : Omissions) (names : HashMap (List ℕ) ℕ S) : Type 0 where
  pub size : length omissions ≡ length start
  pub stays : (number : ℕ) (out : FileOmission) → slice_get start number ≡ Some (Some out)
      → slice_get omissions number ≡ Some (Some out)
  pub told : (number : ℕ) (out : FileOmission) → IsKeptFile start number → slice_get omissions number ≡ Some (Some out)
      → IsTold Earlier items count omissions number out
  pub clear : NoneClash items omissions count
  pub found : (name : List ℕ) (index : ℕ) → index_in names name ≡ Some index
      → (index < count) × HasName items name index
  pub first : (index : ℕ) (item : Item) → index < count → slice_get items index ≡ Some item → IsOpen omissions item
      → IsFirst items omissions names item.full_name index
