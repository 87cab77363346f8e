-- What a table of steps says, how it comes from the files, and the rows of the files that are seen by it.
use Rattle.std.specs.Prelude.{ℕ, ◌≡◌, ◌<◌, ◌↔◌, ◌⊎◌, Bool, true, false, Option, Some, None, List, [], ◌∷◌, ◌++◌, length, All}
use Rattle.std.specs.Prelude.{Contains, if◌then◌else◌, not, ◌||◌, ◌&&◌}
use Rattle.std.specs.List.{slice_get, flat_map}
use Rattle.std.specs.Option.{is_none}
use Rattle.std.specs.Str.{bytes_eq}
use Rattle.std.specs.HashMap.{HashMap, get_by}
use denote.Ref.{Bor}
use Rattle.proto_lex.specs.declared.span.Span.{Span}
use Rattle.proto_decl.specs.Facts.{Facts}
use Rattle.proto_decl.specs.declared.imports.Imported.{Imported}
use Rattle.proto_visibility.specs.declared.import_table.Steps.{Steps}
use Rattle.proto_visibility.specs.declared.files.FilePlace.{FilePlace}
use Rattle.proto_visibility.specs.Files.{File, HasPathAt, IsPresent, Imports, is_public}
use Rattle.proto_visibility.specs.Sees.{LeadsTo, SeesBy}

-- the files that a file imports, publicly or not
abbrev pub targets : Steps → (publicly : Bool) → List ℕ
targets steps true = steps.public.items
targets steps false = steps.plain.items

-- the one file imports the other, publicly or not
pub record HasStep (table : List Steps) (importing : ℕ) (publicly : Bool) (imported : ℕ) : Type 0 where
  pub steps : Steps
  pub stands : slice_get table importing ≡ Some steps
  pub listed : Contains (targets steps publicly) imported

-- the steps lead to files that the table has
abbrev pub AreWithin : List Steps → Type 0
AreWithin table = All (λ steps. (publicly : Bool) → All (λ number. number < length table) (targets steps publicly))
    table

-- the steps of the table are the imports of the files
pub record IsTableOf (files : List File) (table : List Steps) : Type 0 where
  pub one_each : length table ≡ length files
  pub within : AreWithin table
  pub steps : (importing imported : ℕ) (publicly : Bool) → HasStep table importing publicly imported
      ↔ Imports files importing publicly imported

-- what a file sees without public imports of others: itself, and what it imports, but not publicly
abbrev pub IsBegun : (table : List Steps) → (file : ℕ) → ℕ → Type 0
IsBegun table file other = (other ≡ file) ⊎ HasStep table file false other

-- public imports lead to it from one of these
abbrev pub IsLedTo : (Imports : ℕ → Bool → ℕ → Type 0) → (starts : List ℕ) → ℕ → Type 0
IsLedTo Imports starts last = (start : ℕ) × Contains starts start × LeadsTo Imports start last

-- the one list begins with the other
abbrev pub IsFront : (front all : List ℕ) → Type 0
IsFront front all = (more : List ℕ) × (all ≡ front ++ more)

-- what the first so many of these import publicly is among them
abbrev pub AreFollowed : (Imports : ℕ → Bool → ℕ → Type 0) → (numbers : List ℕ) → (count : ℕ) → Type 0
AreFollowed Imports numbers count = (index number other : ℕ) → index < count → slice_get numbers index ≡ Some number
    → Imports number true other → Contains numbers other

-- from one of the first so many files, of those that begin it, the search begins there
abbrev pub IsBegunBy : (Begins : ℕ → Type 0) → (table : List Steps) → (count : ℕ) → ℕ → Type 0
IsBegunBy Begins table count number =
    (start : ℕ) × (start < count) × Begins start × IsBegun table start number

-- a row for each file, which has the files that it sees by these imports
pub record AreRowsBy (Imports : ℕ → Bool → ℕ → Type 0) (files : ℕ) (rows : List (List ℕ)) : Type 0 where
  pub one_each : length rows ≡ files
  pub each : (file : ℕ) (row : List ℕ) → slice_get rows file ≡ Some row → (other : ℕ) → Contains row other
      ↔ SeesBy Imports file other

-- the number that is in a map at a path
abbrev pub number_in : {S : Type 0} → HashMap (Bor (List ℕ)) ℕ S → (path : List ℕ) → Option ℕ
number_in numbers path = get_by (λ key. bytes_eq path key.now) numbers

-- whether the file with this number isn't left out
abbrev pub is_present : Option File → Bool
is_present None = false
is_present (Some file) = not file.is_left_out

abbrev pub is_present_at : List File → (number : ℕ) → Bool
is_present_at files number = is_present (slice_get files number)

-- whether it is neither a source nor left out
abbrev pub is_other : Option File → Bool
is_other None = false
is_other (Some file) = not file.is_left_out && file.is_included

abbrev pub is_other_at : List File → (number : ℕ) → Bool
is_other_at files number = is_other (slice_get files number)

-- the map has the number of each path of a file that isn't left out
abbrev pub ArePaths : {S : Type 0} → List File → HashMap (Bor (List ℕ)) ℕ S → Type 0
ArePaths files paths = (path : List ℕ) (number : ℕ) → (number_in paths path ≡ Some number)
    ↔ (HasPathAt files path number × IsPresent files number)

-- the map has the number of each path
abbrev pub AreNumbered : {S : Type 0} → List File → HashMap (Bor (List ℕ)) ℕ S → Type 0
AreNumbered files numbers = (path : List ℕ) (number : ℕ) → (number_in numbers path ≡ Some number)
    ↔ HasPathAt files path number

-- the imports of a file; none of a file without facts
abbrev pub imports_in : Option Facts → List Imported
imports_in None = []
imports_in (Some facts) = facts.imports

abbrev pub imports_of : File → List Imported
imports_of file = imports_in file.facts

-- the file that an import names, if it is public as asked
abbrev pub target : (List ℕ → Option ℕ) → (publicly : Bool) → Imported → Option ℕ
target number true import = if is_public import.kind then number import.path else None
target number false import = if is_public import.kind then None else number import.path

-- an import, of an included file or of a source, has to be there and names no file
abbrev pub is_absent : (List ℕ → Option ℕ) → (included : Bool) → Imported → Bool
is_absent number included import = (not included || is_public import.kind) && is_none (number import.path)

-- the place of such an import, of the file with this number
abbrev pub absent_at : (List ℕ → Option ℕ) → (included : Bool) → (file : ℕ) → Imported → List FilePlace
absent_at names included file import =
    if is_absent names included import then record { file = file; span = import.span } ∷ [] else []

-- those of a file
abbrev pub absents_of : (List ℕ → Option ℕ) → (number : ℕ) → Option File → List FilePlace
absents_of names number None = []
absents_of names number (Some file) = flat_map (absent_at names file.is_included number) (imports_of file)

abbrev pub absents_at : List File → (List ℕ → Option ℕ) → (number : ℕ) → List FilePlace
absents_at files names number = absents_of names number (slice_get files number)

-- none of the first so many imports is one
abbrev pub NoneIsAbsentUpTo : (List ℕ → Option ℕ) → Bool → List Imported → (count : ℕ) → Type 0
NoneIsAbsentUpTo number included imports count = (k : ℕ) (import : Imported) → k < count
    → slice_get imports k ≡ Some import → is_absent number included import ≡ false

abbrev pub NoneIsAbsent : (List ℕ → Option ℕ) → Bool → List Imported → Type 0
NoneIsAbsent number included imports = NoneIsAbsentUpTo number included imports (length imports)

-- the first such import is at this span
pub record IsFirstAbsent (number : List ℕ → Option ℕ) (included : Bool) (imports : List Imported)
    (span : Span) : Type 0 where
  pub index : ℕ
  pub import : Imported
  pub stands : slice_get imports index ≡ Some import
  pub absent : is_absent number included import ≡ true
  pub place : import.span ≡ span
  pub first : NoneIsAbsentUpTo number included imports index
