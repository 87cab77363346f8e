-- The well-known files, `google/protobuf/*.proto`: the folder of a `protoc` that has them, and that folder as a root.
-- (`protoc` comes with them in `include` beside its own folder: https://protobuf.dev/installation/.)
use Rattle.std.specs.Prelude.{◌≡◌, ◌≢◌, ◌==◌, ℕ, Bool, true, false, List, [], ◌∷◌, ◌++◌, Option, Some, None, codes}
use Rattle.std.specs.Prelude.{All, map}
use Rattle.std.specs.List.{slice_split}
use Rattle.source_files.specs.Listings.{Listing}

-- ---- where they are

-- a folder by its name on the PATH; the empty one is the folder where the program runs (POSIX, 8.3)
abbrev pub folder_named : List ℕ → List ℕ
folder_named [] = codes "."
folder_named (byte ∷ name) = byte ∷ name

-- the folders of the PATH, if there is one
abbrev pub folders_on : Option (List ℕ) → List (List ℕ)
folders_on None = []
folders_on (Some path) = map folder_named (slice_split (λ b. b == 58) path)

-- `finds` is what asking whether a regular file has a path may answer
module _ (finds : List ℕ → Bool → Type 0) where
  -- `../include` beside the `protoc` of a folder, if it has one
  pub data IsBeside (folder : List ℕ) : (beside : List (List ℕ)) → Type 0 where
    has_protoc : finds (folder ++ codes "/protoc") true → IsBeside folder ((folder ++ codes "/../include") ∷ [])
    lacks_protoc : finds (folder ++ codes "/protoc") false → IsBeside folder []

  -- those of several folders, in their order
  pub data AreBeside : (folders beside : List (List ℕ)) → Type 0 where
    no_folder : AreBeside [] []
    next_folder : {folder : List ℕ} {folders here beside : List (List ℕ)} → IsBeside folder here
        → AreBeside folders beside → AreBeside (folder ∷ folders) (here ++ beside)

  -- the first of these folders that has `descriptor.proto`, if one has
  pub data IsFirstKnown : (folders : List (List ℕ)) → (found : Option (List ℕ)) → Type 0 where
    nowhere : IsFirstKnown [] None
    found_here : {folder : List ℕ} {folders : List (List ℕ)}
        → finds (folder ++ codes "/google/protobuf/descriptor.proto") true
        → IsFirstKnown (folder ∷ folders) (Some folder)
    found_behind : {folder : List ℕ} {folders : List (List ℕ)} {found : Option (List ℕ)}
        → finds (folder ++ codes "/google/protobuf/descriptor.proto") false → IsFirstKnown folders found
        → IsFirstKnown (folder ∷ folders) found

  -- the folder with the well-known files, if there is one: beside a `protoc` on the PATH, or one of the system
  pub record IsWellKnown (path : Option (List ℕ)) (found : Option (List ℕ)) : Type 0 where
    pub beside : List (List ℕ)
    pub are_beside : AreBeside (folders_on path) beside
    pub first : IsFirstKnown (beside ++ codes "/usr/local/include" ∷ (codes "/usr/include" ∷ [])) found

-- what is beside the `protoc` of a folder comes behind others
pub record AddsBeside (finds : List ℕ → Bool → Type 0) (folder : List ℕ) (old new : List (List ℕ)) : Type 0 where
  pub here : List (List ℕ)
  pub is_beside : IsBeside finds folder here
  pub new_are : new ≡ old ++ here

-- ---- that folder as a root

-- a folder in which is this one alone, or nothing
abbrev pub with_folder : List ℕ → Listing
with_folder name = record {
  entries = record { name = name; is_file = false } ∷ [];
  identity = None;
  unnamed = [];
}

abbrev pub without_entries : Listing
without_entries = record { entries = []; identity = None; unnamed = [] }

-- What listing a folder below the root with the well-known files may give: there is nothing but `google/protobuf`, and
-- in this no folder has anything. `lists` is what the system of files gives of it.
pub data ListsKnown (lists : List ℕ → Option Listing → Type 0) : (folder : List ℕ) → Option Listing → Type 0 where
  of_root : ListsKnown lists [] (Some (with_folder (codes "google")))
  of_google : ListsKnown lists (codes "google/") (Some (with_folder (codes "protobuf")))
  of_protobuf : {listed : Option Listing} → lists (codes "google/protobuf/") listed
      → ListsKnown lists (codes "google/protobuf/") listed
  of_others : {folder : List ℕ} → folder ≢ [] → folder ≢ codes "google/" → folder ≢ codes "google/protobuf/"
      → ListsKnown lists folder (Some without_entries)

-- what listing folders below roots may give, if a root has the well-known files, which `linked` lists
pub data ListsBeside (lists linked : List ℕ → List ℕ → Option Listing → Type 0) (known : Option (List ℕ))
    (root folder : List ℕ) (listed : Option Listing) : Type 0 where
  of_known : known ≡ Some root → ListsKnown (linked root) folder listed
      → ListsBeside lists linked known root folder listed
  of_another : known ≢ Some root → lists root folder listed → ListsBeside lists linked known root folder listed

-- the path of a well-known file: `google/protobuf/` and a name
pub record IsKnownPath (path : List ℕ) : Type 0 where
  pub name : List ℕ
  pub whole : All (λ byte. byte ≢ 47) name
  pub path_is : path ≡ codes "google/protobuf/" ++ name

-- What asking whether a file with a path is below the root with the well-known files may answer: there are no others.
-- `finds` is what the system of files answers of it.
pub data FindsKnown (finds : List ℕ → Bool → Type 0) (path : List ℕ) : (there : Bool) → Type 0 where
  is_known : {there : Bool} → IsKnownPath path → finds path there → FindsKnown finds path there
  is_another : ¬ (IsKnownPath path) → FindsKnown finds path false

-- what asking that of roots may answer, if a root has the well-known files, which `linked` finds
pub data FindsBeside (finds linked : List ℕ → List ℕ → Bool → Type 0) (known : Option (List ℕ))
    (root path : List ℕ) (there : Bool) : Type 0 where
  in_known : known ≡ Some root → FindsKnown (linked root) path there → FindsBeside finds linked known root path there
  in_another : known ≢ Some root → finds root path there → FindsBeside finds linked known root path there
