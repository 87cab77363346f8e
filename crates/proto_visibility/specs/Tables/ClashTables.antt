-- How a clash is found: items in order of place, a map from names to the first item that has each, and sets of the
-- numbers of names.
use Rattle.std.specs.Prelude.{◌≡◌, ℕ, ◌<◌, Option, Some, None, List, ◌||◌, MatchOption, if◌then◌else◌, Bool, true, []}
use Rattle.std.specs.Prelude.{Contains, nat_eq}
use Rattle.std.specs.List.{slice_get}
use Rattle.std.specs.HashMap.{HashMap, get_by}
use Rattle.std.specs.Str.{bytes_eq}
use Rattle.std.specs.HashSet.{HashSet, contains}
use Rattle.proto_decl.specs.Names.{hash64}
use Rattle.proto_decl.specs.Facts.{Facts}
use Rattle.proto_decl.specs.declared.declaration.Declaration.{Declaration}
use Rattle.proto_visibility.specs.declared.files.FilePlace.{FilePlace}
use Rattle.proto_visibility.specs.Clashes.{Before, BeforeBy, Item, NoClashBy}
use Rattle.proto_visibility.specs.Files.{File}

-- each item comes before those after it, where files come in some order
abbrev pub AreInPlaceBy : (Earlier : ℕ → ℕ → Type 0) → List Item → Type 0
AreInPlaceBy Earlier items = (j k : ℕ) (a b : Item) → j < k → slice_get items j ≡ Some a → slice_get items k ≡ Some b
    → BeforeBy Earlier a.place b.place

-- in order of their numbers
abbrev pub AreInPlace : List Item → Type 0
AreInPlace = AreInPlaceBy (λ number other. number < other)

-- none of the first so many items has the name
abbrev pub HasNone : List Item → (count : ℕ) → (name : List ℕ) → Type 0
HasNone items count name = (k : ℕ) (item : Item) → k < count → slice_get items k ≡ Some item → item.full_name ≡ name → ⊥

-- the item at this index is the first with the name, and one of this many
pub record IsFirstNamed (items : List Item) (count : ℕ) (name : List ℕ) (index : ℕ) : Type 0 where
  pub item : Item
  pub stands : slice_get items index ≡ Some item
  pub named : item.full_name ≡ name
  pub within : index < count
  pub first : HasNone items index name

-- the index that is in a map at a full name
abbrev pub index_in : {S : Type 0} → HashMap (List ℕ) ℕ S → (name : List ℕ) → Option ℕ
index_in names name = get_by (λ key. bytes_eq name key) names

-- the map has the first of this many items with each name
abbrev pub AreFirst : {S : Type 0} → List Item → (count : ℕ) → HashMap (List ℕ) ℕ S → Type 0
AreFirst items count names = (name : List ℕ)
    → MatchOption (index_in names name) (HasNone items count name) (IsFirstNamed items count name)

-- the place of the earlier item, if one of the two is a declaration
abbrev pub place_if_declared : Option Item → Item → Option FilePlace
place_if_declared None item = None
place_if_declared (Some earlier) item =
    if earlier.is_declaration || item.is_declaration then Some earlier.place else None

abbrev pub clash_with : List Item → (first : Option ℕ) → Item → Option FilePlace
clash_with items None item = None
clash_with items (Some index) item = place_if_declared (slice_get items index) item

-- ---- sets of the numbers of full names: names with different numbers differ

-- whether the set has the number of this full name
abbrev pub has_number : {S : Type 0} → HashSet ℕ S → (name : List ℕ) → Bool
has_number numbers name = contains nat_eq numbers (hash64 name)

-- no two of the items clash, and the set has the number of each one's full name
pub record AreApart {S : Type 0} (items : List Item) (numbers : HashSet ℕ S) : Type 0 where
  pub clear : NoClashBy Before (Contains items)
  pub numbered : (item : Item) → Contains items item → has_number numbers item.full_name ≡ true

-- the declarations of a file; none of a file without facts
abbrev pub declarations_in : Option Facts → List Declaration
declarations_in None = []
declarations_in (Some facts) = facts.declarations

abbrev pub declarations_of : File → List Declaration
declarations_of file = declarations_in file.facts
