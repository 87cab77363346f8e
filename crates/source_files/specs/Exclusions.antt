-- What is listed without what patterns exclude.
use Rattle.std.specs.Prelude.{◌≡◌, ◌==◌, ℕ, Bool, false, List, [], ◌∷◌, ◌++◌, Option, Some, None}
use Rattle.std.specs.List.{slice_split}
use Rattle.globs.specs.Exclusions.{IsExcluded}
use Rattle.source_files.specs.Entries.{Entry}
use Rattle.source_files.specs.Listings.{Listing}
use Rattle.source_files.specs.Unread.{Unread}

-- of what has these names in a folder, in its order, what isn't excluded
pub data Stay {A : Type 0} (name_of : A → List ℕ) (patterns : List (List ℕ)) (folder : List ℕ)
    : (all left : List A) → Type 0 where
  none_stays : Stay name_of patterns folder [] []
  stays : {one : A} {others left : List A} → ¬ (IsExcluded patterns folder (name_of one))
      → Stay name_of patterns folder others left → Stay name_of patterns folder (one ∷ others) (one ∷ left)
  goes : {one : A} {others left : List A} → IsExcluded patterns folder (name_of one)
      → Stay name_of patterns folder others left → Stay name_of patterns folder (one ∷ others) left

-- what isn't excluded of more comes behind what is left
pub record AddsLeft {A : Type 0} (name_of : A → List ℕ) (patterns : List (List ℕ)) (folder : List ℕ)
    (all old new : List A) : Type 0 where
  pub left : List A
  pub stay : Stay name_of patterns folder all left
  pub new_are : new ≡ old ++ left

-- what is left of what listing a folder gave
pub data IsLeftOf (patterns : List (List ℕ)) (folder : List ℕ) : (gave left : Option Listing) → Type 0 where
  nothing : IsLeftOf patterns folder None None
  some : {listing left : Listing}
      → Stay (λ (entry : Entry). entry.name) patterns folder listing.entries left.entries
      → Stay (λ (named : Unread). named.shown) patterns folder listing.unnamed left.unnamed
      → left.identity ≡ listing.identity
      → IsLeftOf patterns folder (Some listing) (Some left)

-- what listing each folder below roots may give, without what patterns exclude
pub record ListsWithout (lists : List ℕ → List ℕ → Option Listing → Type 0) (patterns : List (List ℕ))
    (root folder : List ℕ) (left : Option Listing) : Type 0 where
  pub gave : Option Listing
  pub listed : lists root folder gave
  pub is_left : IsLeftOf patterns folder gave left

-- the names in a path, which are between `/`
abbrev pub names_of : List ℕ → List (List ℕ)
names_of path = slice_split (λ byte. byte == 47) path

-- one of these names is excluded, each in the folder that those before it make, behind this one
pub data HasExcluded (patterns : List (List ℕ)) : (folder : List ℕ) → (names : List (List ℕ)) → Type 0 where
  excluded_here : {folder name : List ℕ} {names : List (List ℕ)} → IsExcluded patterns folder name
      → HasExcluded patterns folder (name ∷ names)
  excluded_behind : {folder name : List ℕ} {names : List (List ℕ)}
      → HasExcluded patterns (folder ++ (name ++ 47 ∷ [])) names → HasExcluded patterns folder (name ∷ names)

-- the file with a path, or a folder on the way to it, is excluded
abbrev pub IsPathExcluded : (patterns : List (List ℕ)) → (path : List ℕ) → Type 0
IsPathExcluded patterns path = HasExcluded patterns [] (names_of path)

-- what asking whether a file is below a root may answer, without what patterns exclude
pub data FindsWithout (finds : List ℕ → List ℕ → Bool → Type 0) (patterns : List (List ℕ)) (root path : List ℕ)
    : (there : Bool) → Type 0 where
  is_excluded : IsPathExcluded patterns path → FindsWithout finds patterns root path false
  is_left : {there : Bool} → ¬ (IsPathExcluded patterns path) → finds root path there
      → FindsWithout finds patterns root path there

-- of these paths, in their order, those that aren't excluded
pub data PathsStay (patterns : List (List ℕ)) : (all left : List (List ℕ)) → Type 0 where
  no_path_stays : PathsStay patterns [] []
  path_stays : {path : List ℕ} {others left : List (List ℕ)} → ¬ (IsPathExcluded patterns path)
      → PathsStay patterns others left → PathsStay patterns (path ∷ others) (path ∷ left)
  path_goes : {path : List ℕ} {others left : List (List ℕ)} → IsPathExcluded patterns path
      → PathsStay patterns others left → PathsStay patterns (path ∷ others) left
