-- The steps of a walk through the folders below a root.
use Rattle.std.specs.Prelude.{◌≡◌, ◌≢◌, ℕ, ⊤, Bool, true, false, List, ◌++◌, Option, map, string_bytes}
use Rattle.std.specs.Prelude.{[], Contains}
use Rattle.std.specs.List.{AllZip}
use Rattle.source_files.specs.declared.found.Found.{Found}
use Rattle.source_files.specs.declared.listing.FolderIdentity.{FolderIdentity}
use Rattle.source_files.specs.declared.load_fault.LoadFault.{LoadFault}
use Rattle.source_files.specs.declared.load_fault.LoadFault.TheVariants.{Unreadable, Memory}
use Rattle.source_files.specs.declared.walk.Walk.{Walk}
use Rattle.source_files.specs.Entries.{Entry, Give}
use Rattle.source_files.specs.Listings.{Listing}
use Rattle.source_files.specs.Walks.{Had, Has, IsMet, Keep, AreByBytes, AreListed, AreWalked, IsRootUnlisted, IsUnlisted}
use Rattle.source_files.specs.Walks.{met_with}
use Rattle.source_files.specs.Unread.{Unread, at_path, unread_of}

-- Why folders aren't listed. `Unreadable` names the root, and comes only if this holds. `Memory` may always come, and no
-- other fault.
abbrev pub MayNotList : (Unlisted : Type 0) → (root : List ℕ) → LoadFault → Type 0
MayNotList Unlisted root (Unreadable name) = (string_bytes name ≡ root) × Unlisted
MayNotList Unlisted root Memory = ⊤
MayNotList Unlisted root other = ⊥

-- what can't be read stops a walk: anything, or, where it is left out, the root itself, whose path is empty
abbrev pub Stops : (leaves_out : Bool) → (unread : List Unread) → Type 0
Stops false unread = unread ≢ []
Stops true unread = Contains unread (at_path [])

-- the paths of the sources listed below a root, and of what is left out there: nothing, or all that can't be read but
-- the root itself
abbrev pub AreListedBut : (List ℕ → Option Listing → Type 0) → (leaves_out : Bool) → (paths : List (List ℕ))
    → (unread : List Unread) → Type 0
AreListedBut lists false paths unread = AreListed lists paths × (unread ≡ [])
AreListedBut lists true paths unread = AreWalked lists paths unread × ¬ (Contains unread (at_path []))

-- they aren't listed: something can't be read, or, where such is left out, the root itself
abbrev pub StopsWalk : (List ℕ → Option Listing → Type 0) → (leaves_out : Bool) → Type 0
StopsWalk lists false = IsUnlisted lists
StopsWalk lists true = IsRootUnlisted lists

-- entries of a folder come behind others, and what they give behind what these give
pub record AddsEntries (folder : List ℕ) (entries : List Entry) (folders more paths longer : List (List ℕ)) : Type 0
  where
    pub given_folders : List (List ℕ)
    pub given_sources : List (List ℕ)
    pub give : Give folder entries given_folders given_sources
    pub more_are : more ≡ folders ++ given_folders
    pub longer_are : longer ≡ paths ++ given_sources

-- what was found in a folder
abbrev pub had_of : Found → Had
had_of found = record {
  folders = map string_bytes found.folders.items;
  sources = map string_bytes found.paths.items;
  unread = map unread_of found.unread.items;
  identity = found.identity;
}

-- whether a folder is new; it is then met
pub data Meets (met : List FolderIdentity) (identity : Option FolderIdentity)
    : (is_new : Bool) → (after : List FolderIdentity) → Type 0 where
  is_met : IsMet met identity → Meets met identity false met
  is_new : ¬ (IsMet met identity) → Meets met identity true (met_with met identity)

-- what of these is kept comes behind what is there
pub record KeepsMore (all : List Had) (old new : Walk) : Type 0 where
  pub folders : List (List ℕ)
  pub sources : List (List ℕ)
  pub unread : List Unread
  pub keep : Keep old.met.items all folders sources unread new.met.items
  pub folders_are : map string_bytes new.folders.items ≡ map string_bytes old.folders.items ++ folders
  pub sources_are : map string_bytes new.paths.items ≡ map string_bytes old.paths.items ++ sources
  pub unread_are : map unread_of new.unread.items ≡ map unread_of old.unread.items ++ unread

-- what each of these folders has
abbrev pub HaveEach : (List ℕ → Option Listing → Type 0) → (folders : List (List ℕ)) → List Found → Type 0
HaveEach lists folders all = AllZip (Has lists) folders (map had_of all)

-- the folders of a level are listed: those that they have are the next level, and what else they have is found
pub record GoesOn (lists : List ℕ → Option Listing → Type 0) (old new : Walk) : Type 0 where
  pub all : List Had
  pub folders : List (List ℕ)
  pub sources : List (List ℕ)
  pub unread : List Unread
  pub have : AllZip (Has lists) (map string_bytes old.folders.items) all
  pub keep : Keep old.met.items all folders sources unread new.met.items
  pub by_bytes : AreByBytes folders (map string_bytes new.folders.items)
  pub sources_are : map string_bytes new.paths.items ≡ map string_bytes old.paths.items ++ sources
  pub unread_are : map unread_of new.unread.items ≡ map unread_of old.unread.items ++ unread
