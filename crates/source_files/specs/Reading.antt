-- Reading the sources with given paths below a root.
use Rattle.std.specs.Prelude.{◌≡◌, ℕ, ⊤, Bool, true, false, List, [], ◌∷◌, ◌++◌, Option, None, Result, Ok, Err, All}
use Rattle.std.specs.Prelude.{map, string_bytes}
use Rattle.std.specs.List.{AllZip, flat_map}
use Rattle.source_tree.specs.Files.{SourceFile, paths_of}
use Rattle.source_files.specs.Listings.{Listing}
use Rattle.source_files.specs.Unread.{Unread, at_path}
use Rattle.source_files.specs.declared.load_fault.LoadFault.{LoadFault}
use Rattle.source_files.specs.declared.load_fault.LoadFault.TheVariants.{Unreadable, Memory}
use Rattle.source_files.specs.declared.reading.ReadSource.{ReadSource}
use Rattle.source_files.specs.declared.reading.ReadSource.TheVariants.{Held, LeftOut}
use Rattle.source_files.specs.Roots.{AreRead, FilesBelow, IsHeld, path_below, unread_file}

-- the file: what is left out stands there by its path alone, and is told
abbrev pub file_of : ReadSource → SourceFile
file_of (Held source) = source
file_of (LeftOut path) = unread_file (string_bytes path)

abbrev pub left_of : ReadSource → List Unread
left_of (Held source) = []
left_of (LeftOut path) = at_path (string_bytes path) ∷ []

-- what was read of sources comes behind what was read before
pub record AddsRead (all : List ReadSource) (old new : FilesBelow) : Type 0 where
  pub files_are : new.files ≡ old.files ++ map file_of all
  pub unread_are : new.unread ≡ old.unread ++ flat_map left_of all

module _ (lists : List ℕ → List ℕ → Option Listing → Type 0) (gives : List ℕ → Option (List ℕ) → Type 0)
    (leaves_out : Bool)
    (root : List ℕ) where
  -- why the source with a path isn't read: it can't be, its path is named, and it isn't to be left out; nothing is said
  -- about memory; and no other fault comes
  abbrev pub MayStopReading : (path : List ℕ) → LoadFault → Type 0
  MayStopReading path (Unreadable name) =
      (leaves_out ≡ false) × (string_bytes name ≡ path) × gives (path_below root path) None
  MayStopReading path Memory = ⊤
  MayStopReading path other = ⊥

  -- what reading the source with a path gives
  abbrev pub GivesSource : (path : List ℕ) → Result ReadSource LoadFault → Type 0
  GivesSource path (Ok (Held source)) = (source.path ≡ path) × IsHeld lists gives root source
  GivesSource path (Ok (LeftOut left)) =
      (leaves_out ≡ true) × (string_bytes left ≡ path) × gives (path_below root path) None
  GivesSource path (Err fault) = MayStopReading path fault

  -- what reading each of the sources with these paths gives
  abbrev pub GiveEach : (paths : List (List ℕ)) → List ReadSource → Type 0
  GiveEach paths all = AllZip (λ path read. GivesSource path (Ok read)) paths all

  -- the sources with these paths, and which of them are left out
  pub record AreReadBut (paths : List (List ℕ)) (below : FilesBelow) : Type 0 where
    pub read : AreRead lists gives root paths below.files below.unread
    pub whole : leaves_out ≡ false → below.unread ≡ []

  -- the first of these paths whose source can't be read
  pub record IsFirstUnreadable (paths : List (List ℕ)) (path : List ℕ) : Type 0 where
    pub sources : List SourceFile
    pub behind : List (List ℕ)
    pub paths_are : paths ≡ paths_of sources ++ path ∷ behind
    pub held : All (IsHeld lists gives root) sources
    pub unreadable : gives (path_below root path) None

  -- why the sources with these paths aren't read
  abbrev pub MayStopAt : (paths : List (List ℕ)) → LoadFault → Type 0
  MayStopAt paths (Unreadable name) = (leaves_out ≡ false) × IsFirstUnreadable paths (string_bytes name)
  MayStopAt paths Memory = ⊤
  MayStopAt paths other = ⊥
