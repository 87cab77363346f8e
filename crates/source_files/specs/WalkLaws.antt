-- What the paths that are listed below a root are like, and that they are one list.
use Rattle.std.specs.Prelude.{◌≡◌, ℕ, List, [], ◌∷◌, ◌++◌, Option, Some, None, All, codes}
use Rattle.std.specs.List.{flat_map}
use Rattle.source_files.specs.Entries.{IsName}
use Rattle.source_files.specs.Listings.{Listing}
use Rattle.source_files.specs.Unread.{Unread}
use Rattle.source_files.specs.PlainWalks.{AreListedBelow, CantBeListed}
use Rattle.source_files.specs.Walks.{AreListed, AreWalked, IsUnlisted}

-- the names of folders, each with `/` behind it
abbrev pub folder_path : List (List ℕ) → List ℕ
folder_path names = flat_map (λ name. name ++ 47 ∷ []) names

-- A path of a source below its root: the names of folders, each with `/` behind it, and then a name that ends in
-- `.proto`. So by its names it doesn't leave the root; a link that is followed may.
pub record StaysBelow (path : List ℕ) : Type 0 where
  pub folders : List (List ℕ)
  pub name : List ℕ
  pub front : List ℕ
  pub named_folders : All IsName folders
  pub named : IsName name
  pub ending : name ≡ front ++ codes ".proto"
  pub path_is : path ≡ folder_path folders ++ name

-- so it is with the path of each source found below a root, whatever can't be read there
abbrev pub ListedStayBelow : (List ℕ → List ℕ → Option Listing → Type 0) → Type 0
ListedStayBelow lists = (root : List ℕ) (paths : List (List ℕ)) (unread : List Unread)
    → AreWalked (lists root) paths unread → All StaysBelow paths

-- each folder has one listing at most, or can't be listed
abbrev pub ListOnce : (List ℕ → List ℕ → Option Listing → Type 0) → Type 0
ListOnce lists = (root folder : List ℕ) (one other : Option Listing) → lists root folder one
    → lists root folder other → one ≡ other

-- then what is listed below a root is one list at most; and if there is one, no folder there can't be listed
pub record OneListing (lists : List ℕ → List ℕ → Option Listing → Type 0) : Type 0 where
  pub one : ListOnce lists → (root : List ℕ) (paths others : List (List ℕ)) → AreListed (lists root) paths
      → AreListed (lists root) others → paths ≡ others
  pub whole : ListOnce lists → (root : List ℕ) (paths : List (List ℕ)) → AreListed (lists root) paths
      → ¬ (IsUnlisted (lists root))

-- no folder says which it is
abbrev pub NoneIsKnown : (List ℕ → List ℕ → Option Listing → Type 0) → Type 0
NoneIsKnown lists = (root folder : List ℕ) (listing : Listing) → lists root folder (Some listing)
    → listing.identity ≡ None

-- then what is listed below a root is what `AreListedBelow` says; and if something there can't be listed,
-- `CantBeListed` holds of the root
pub record PlainListing (lists : List ℕ → List ℕ → Option Listing → Type 0) : Type 0 where
  pub listed : NoneIsKnown lists → (root : List ℕ) (paths : List (List ℕ)) → AreListed (lists root) paths
      → AreListedBelow (lists root) paths
  pub unlisted : NoneIsKnown lists → (root : List ℕ) → IsUnlisted (lists root) → CantBeListed (lists root) []
