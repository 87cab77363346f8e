-- What is listed below a root, by what listing its folders gave.
use Rattle.std.specs.Prelude.{◌≢◌, ◌↔◌, ℕ, List, [], ◌∷◌, ◌++◌, Option, Some, None, Contains, IsPermutation, map}
use Rattle.std.specs.Ordering.{nat_cmp}
use Rattle.std.specs.Cmp.Lexicographic.{slice_cmp}
use Rattle.std.specs.List.{AllZip}
use Rattle.std.specs.List.Sorted.{IsSorted, IsStrictlySortedBy}
use Rattle.source_files.specs.Entries.{Give}
use Rattle.source_files.specs.Listings.{Listing}
use Rattle.source_files.specs.Unread.{Unread, at_path, in_folder, unread_cmp}
use Rattle.source_files.specs.declared.listing.FolderIdentity.{FolderIdentity}

-- what a folder has: other folders, sources, what of it can't be read; and which folder it is, if that is known
pub record Had : Type 0 where
  pub folders : List (List ℕ)
  pub sources : List (List ℕ)
  pub unread : List Unread
  pub identity : Option FolderIdentity

-- this folder was met
abbrev pub IsMet : (met : List FolderIdentity) → Option FolderIdentity → Type 0
IsMet met None = ⊥
IsMet met (Some identity) = Contains met identity

-- the folders that were met, and this one
abbrev pub met_with : (met : List FolderIdentity) → Option FolderIdentity → List FolderIdentity
met_with met None = met
met_with met (Some identity) = met ++ identity ∷ []

-- What those of several folders have that weren't met before. Each of them is then met.
pub data Keep : (met : List FolderIdentity) → List Had → (folders sources : List (List ℕ)) → (unread : List Unread)
    → (after : List FolderIdentity) → Type 0 where
  none_left : {met : List FolderIdentity} → Keep met [] [] [] [] met
  keeps : {met after : List FolderIdentity} {had : Had} {others : List Had} {folders sources : List (List ℕ)}
      {unread : List Unread}
      → ¬ (IsMet met had.identity) → Keep (met_with met had.identity) others folders sources unread after
      → Keep met (had ∷ others) (had.folders ++ folders) (had.sources ++ sources) (had.unread ++ unread) after
  passes : {met after : List FolderIdentity} {had : Had} {others : List Had} {folders sources : List (List ℕ)}
      {unread : List Unread}
      → IsMet met had.identity → Keep met others folders sources unread after
      → Keep met (had ∷ others) folders sources unread after

-- these are the paths, by their bytes
pub record AreByBytes (paths sorted : List (List ℕ)) : Type 0 where
  pub complete : IsPermutation paths sorted
  pub ascends : IsSorted (slice_cmp nat_cmp) sorted

-- these are the paths, each once, by their bytes
pub record AreOnce (paths once : List (List ℕ)) : Type 0 where
  pub same : (path : List ℕ) → Contains once path ↔ Contains paths path
  pub ascends : IsStrictlySortedBy (slice_cmp nat_cmp) once

-- these are the entries, each once, in order of what is shown of them
pub record AreEachOnce (entries once : List Unread) : Type 0 where
  pub same : (entry : Unread) → Contains once entry ↔ Contains entries entry
  pub ascends : IsStrictlySortedBy unread_cmp once

-- What a folder has by what listing it gave. One that can't be listed is itself unread; of others, what has a name that
-- isn't UTF-8.
pub data Holds (folder : List ℕ) : Option Listing → Had → Type 0 where
  unlisted : Holds folder None (record { folders = []; sources = []; unread = at_path folder ∷ []; identity = None })
  listed : {listing : Listing} {folders sources : List (List ℕ)} → Give folder listing.entries folders sources
      → Holds folder (Some listing) (record {
        folders = folders;
        sources = sources;
        unread = map (in_folder folder) listing.unnamed;
        identity = listing.identity;
      })

-- what listing each folder below the root may give, or none
module _ (lists : List ℕ → Option Listing → Type 0) where
  pub record Has (folder : List ℕ) (had : Had) : Type 0 where
    pub gave : Option Listing
    pub listed : lists folder gave
    pub holds : Holds folder gave had

  -- What is found below the folders of a level: what those have that weren't met, and then, level by level, what is
  -- found below the folders in them. Each level is in order of bytes.
  pub data AreFound : (met : List FolderIdentity) → (level sources : List (List ℕ)) → (unread : List Unread) → Type 0
    where
      nowhere : {met : List FolderIdentity} → AreFound met [] [] []
      next_level : {met after : List FolderIdentity} {level folders next here sources : List (List ℕ)}
          {gone unread : List Unread} {all : List Had}
          → AllZip (Has) level all → Keep met all folders here gone after → AreByBytes folders next
          → AreFound after next sources unread
          → AreFound met level (here ++ sources) (gone ++ unread)

  -- the paths of the sources found below the root, by their bytes, each as often as its folder's listing has it; and
  -- what can't be read there
  pub record AreWalked (paths : List (List ℕ)) (unread : List Unread) : Type 0 where
    pub found : List (List ℕ)
    pub below_root : AreFound [] ([] ∷ []) found unread
    pub by_bytes : AreByBytes found paths

  -- the same, if all can be read
  abbrev pub AreListed : (paths : List (List ℕ)) → Type 0
  AreListed paths = AreWalked paths []

  -- something found below the root can't be read, or the root itself
  pub record IsUnlisted : Type 0 where
    pub paths : List (List ℕ)
    pub unread : List Unread
    pub walked : AreWalked paths unread
    pub some : unread ≢ []

  -- the root itself can't be listed: of what can't be read there one has its path, which is empty
  pub record IsRootUnlisted : Type 0 where
    pub paths : List (List ℕ)
    pub unread : List Unread
    pub walked : AreWalked paths unread
    pub itself : Contains unread (at_path [])
