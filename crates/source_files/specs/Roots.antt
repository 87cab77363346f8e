-- What the sources below a root are, by what a system of files gave.
use Rattle.std.specs.Prelude.{◌≡◌, ℕ, Bool, true, false, List, [], ◌∷◌, ◌++◌, Option, Some, None, All, Contains}
use Rattle.std.specs.List.{AllZip, flat_map}
use Rattle.source_tree.specs.Files.{SourceFile, paths_of}
use Rattle.source_files.specs.Listings.{Listing}
use Rattle.source_files.specs.Unread.{Unread, at_path}
use Rattle.source_files.specs.Source.{MayKeep}
use Rattle.source_files.specs.Walks.{AreListed, AreWalked, IsRootUnlisted, IsUnlisted}

-- the path of a file below a root, for the system; two `/` in a row are one to it
abbrev pub path_below : List ℕ → List ℕ → List ℕ
path_below root path = root ++ (47 ∷ path)

-- files below a root, and what can't be read there
pub record FilesBelow : Type 0 where
  pub files : List SourceFile
  pub unread : List Unread

-- a file that can't be read: nothing is known of what it holds
abbrev pub unread_file : (path : List ℕ) → SourceFile
unread_file path = record { path = path; bytes = []; is_unread = true }

-- those below several roots, root by root
abbrev pub files_of : List FilesBelow → List SourceFile
files_of roots = flat_map (λ below. below.files) roots

abbrev pub all_unread : List FilesBelow → List Unread
all_unread roots = flat_map (λ below. below.unread) roots

module _ (lists : List ℕ → List ℕ → Option Listing → Type 0) (gives : List ℕ → Option (List ℕ) → Type 0) where
  -- a source has what its file below the root gave, as far as that is kept
  pub record IsHeld (root : List ℕ) (source : SourceFile) : Type 0 where
    pub kept : MayKeep (gives (path_below root source.path)) (Some source.bytes)
    pub could_be_read : source.is_unread ≡ false

  -- the sources below a root: those that are listed there, with what they hold
  pub record AreBelow (root : List ℕ) (sources : List SourceFile) : Type 0 where
    pub listed : AreListed (lists root) (paths_of sources)
    pub held : All (IsHeld root) sources

  -- what can't be read first: the root, if it or a folder found below it can't be listed, or a source, those before
  -- which can be read
  pub data IsUnreadable (root : List ℕ) : List ℕ → Type 0 where
    of_root : IsUnlisted (lists root) → IsUnreadable root root
    of_source : (sources : List SourceFile) (path : List ℕ) (behind : List (List ℕ))
        → AreListed (lists root) (paths_of sources ++ path ∷ behind)
        → All (IsHeld root) sources
        → gives (path_below root path) None → IsUnreadable root path

  -- the sources with these paths below a root, in their order, and which of them can't be read
  pub data AreRead (root : List ℕ) : (paths : List (List ℕ)) → List SourceFile → (unread : List Unread) → Type 0
    where
      no_path : AreRead root [] [] []
      is_read : {source : SourceFile} {paths : List (List ℕ)} {sources : List SourceFile} {unread : List Unread}
          → IsHeld root source → AreRead root paths sources unread
          → AreRead root (source.path ∷ paths) (source ∷ sources) unread
      is_unread : {path : List ℕ} {paths : List (List ℕ)} {sources : List SourceFile} {unread : List Unread}
          → gives (path_below root path) None → AreRead root paths sources unread
          → AreRead root (path ∷ paths) (unread_file path ∷ sources) (at_path path ∷ unread)

  -- The sources below a root, where those that can't be read are left out, so that they stand there by their paths
  -- alone; with all that is found there and can't be read. The root itself, whose path is empty, can be listed.
  pub record AreBelowBut (root : List ℕ) (below : FilesBelow) : Type 0 where
    pub paths : List (List ℕ)
    pub unlisted : List Unread
    pub unheld : List Unread
    pub walked : AreWalked (lists root) paths unlisted
    pub root_listed : ¬ (Contains unlisted (at_path []))
    pub read : AreRead root paths below.files unheld
    pub unread_are : below.unread ≡ unlisted ++ unheld

  -- the files below a root, and what can't be read there: nothing, or what is left out
  abbrev pub AreFilesBelow : (leaves_out : Bool) → (root : List ℕ) → FilesBelow → Type 0
  AreFilesBelow false root below = AreBelow root below.files × (below.unread ≡ [])
  AreFilesBelow true root below = AreBelowBut root below

  -- what is named if there are none: what can't be read first; where such is left out, this is the root itself
  abbrev pub StopsBelow : (leaves_out : Bool) → (root name : List ℕ) → Type 0
  StopsBelow false root name = IsUnreadable root name
  StopsBelow true root name = (name ≡ root) × IsRootUnlisted (lists root)

  -- the same of several roots: those before its root have files
  pub record IsUnreadableBelow (leaves_out : Bool) (roots : List (List ℕ)) (name : List ℕ) : Type 0 where
    pub before : List (List ℕ)
    pub root : List ℕ
    pub behind : List (List ℕ)
    pub each : List FilesBelow
    pub roots_are : roots ≡ before ++ root ∷ behind
    pub read : AllZip (AreFilesBelow leaves_out) before each
    pub unreadable : StopsBelow leaves_out root name
