-- The steps by which repeated names are found: each name leads to the first file that has it.
use Rattle.std.specs.Prelude.{◌≡◌, ◌≢◌, ◌<◌, ◌⊎◌, ◌↔◌, ℕ, Option, Some, None, List, [], Contains, String, length}
use Rattle.std.specs.List.{slice_get}
use Rattle.std.specs.HashMap.{HashMap, get_by_text}
use Rattle.proto_decl.specs.Facts.{Facts}
use Rattle.proto_decl.specs.declared.declaration.Declaration.{Declaration}
use Rattle.proto_visibility.specs.Files.{File}
use Rattle.scip_model.specs.Packages.{RepeatedNames, names_at}

-- one of these is outermost and has this full name
pub record IsOutermostIn (declarations : List Declaration) (name : List ℕ) : Type 0 where
  pub declaration : Declaration
  pub listed : Contains declarations declaration
  pub outermost : length declaration.path ≡ 1
  pub named : declaration.full_name ≡ name

-- a name leads to a file with a lesser number
pub record IsHeldBefore {A S : Type 0} (number : ℕ) (holders : HashMap (String A) ℕ S) (name : List ℕ) : Type 0 where
  pub first : ℕ
  pub leads_to : get_by_text holders name ≡ Some first
  pub before : first < number

-- The declarations of the file with this number are taken: of the names that led to an earlier file those that they have
-- are added, and those that led nowhere lead to this file.
pub record AreTakenFrom {A S : Type 0} (number : ℕ) (declarations : List Declaration)
    (holders more : HashMap (String A) ℕ S) (old new : List (List ℕ)) : Type 0 where
  pub added : (name : List ℕ) → Contains new name
      ↔ (Contains old name ⊎ (IsOutermostIn declarations name × IsHeldBefore number holders name))
  pub stays : (name : List ℕ) (first : ℕ) → get_by_text holders name ≡ Some first → get_by_text more name ≡ Some first
  pub leads : (name : List ℕ) → IsOutermostIn declarations name → (first : ℕ) × (get_by_text more name ≡ Some first)
  pub came : (name : List ℕ) (first : ℕ) → get_by_text more name ≡ Some first
      → (get_by_text holders name ≡ Some first)
      ⊎ ((get_by_text holders name ≡ None) × (first ≡ number) × IsOutermostIn declarations name)

-- the declarations of the file with a number; without facts it has none
abbrev pub declarations_if_known : Option Facts → List Declaration
declarations_if_known None = []
declarations_if_known (Some facts) = facts.declarations

abbrev pub declarations_if_there : Option File → List Declaration
declarations_if_there None = []
declarations_if_there (Some file) = declarations_if_known file.facts

abbrev pub declarations_at : List File → (number : ℕ) → List Declaration
declarations_at files number = declarations_if_there (slice_get files number)

-- those of one file are taken
pub record IsFileTaken {A S : Type 0} (files : List File) (number : ℕ) (holders more : HashMap (String A) ℕ S)
    (old new : RepeatedNames) : Type 0 where
  pub taken : AreTakenFrom number (declarations_at files number) holders more (names_at old number) (names_at new number)
  pub others : (other : ℕ) → other ≢ number → names_at new other ≡ names_at old other

-- some name is in these lists, or none is
pub record AreSome (repeated : RepeatedNames) : Type 0 where
  pub number : ℕ
  pub name : List ℕ
  pub there : Contains (names_at repeated number) name

abbrev pub AreNone : RepeatedNames → Type 0
AreNone repeated = (number : ℕ) (name : List ℕ) → Contains (names_at repeated number) name → ⊥
