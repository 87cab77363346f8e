-- What the tree below a root and included roots is, and why there is none.
use Rattle.std.specs.Prelude.{◌≡◌, ℕ, ⊤, Bool, List, ◌∷◌, ◌++◌, Option, map, string_bytes}
use Rattle.std.specs.List.{AllZip}
use Rattle.source_tree.specs.Files.{SourceFile, TreeFile, paths_of}
use Rattle.source_tree.specs.Trees.{IsTreeOf}
use Rattle.source_tree.specs.Refusals.{AreTooMany, HaveBadPath, HaveSamePath}
use Rattle.source_files.specs.Listings.{Listing}
use Rattle.source_files.specs.declared.load_fault.LoadFault.{LoadFault}
use Rattle.source_files.specs.declared.load_fault.LoadFault.TheVariants.{Unreadable, TooMany, BadPath, SamePath, Memory}
use Rattle.source_files.specs.Roots.{AreFilesBelow, FilesBelow, IsUnreadableBelow, all_unread}
use Rattle.source_files.specs.Taken.{OfTaken}
use Rattle.source_files.specs.Unread.{Unread}
use Rattle.source_files.specs.Walks.{AreEachOnce}

-- this is the path of the first file of all that has no good path
abbrev pub HasBadPath : (path : List ℕ) → (sources included : List SourceFile) → Type 0
HasBadPath path sources included =
    (number : ℕ) × (bad : HaveBadPath sources included number) × (path ≡ bad.first.file.path)

-- this is the path of the first source, by path, that has the path of the one before it
abbrev pub HasSamePath : (path : List ℕ) → (sources included : List SourceFile) → Type 0
HasSamePath path sources included =
    (number : ℕ) × (same : HaveSamePath sources included number) × (path ≡ same.first.repeats.second.path)

-- the tree of the files below a root and included roots, and what was left out below all of them, each once
abbrev pub AreLoaded : (leaves_out : Bool) → List TreeFile → (unread : List Unread) → (own : FilesBelow)
    → (others : List FilesBelow) → Type 0
AreLoaded leaves_out tree unread own others =
    OfTaken leaves_out own others (λ sources included bad. IsTreeOf sources included tree
    × AreEachOnce (all_unread (own ∷ others) ++ bad) unread)

module _ (lists : List ℕ → List ℕ → Option Listing → Type 0) (gives : List ℕ → Option (List ℕ) → Type 0)
    (leaves_out : Bool)
    (root : List ℕ)
    (roots : List (List ℕ)) where
  -- this holds of the files below the root, and of those below each included root
  pub record OfFiles (Holds : (own : FilesBelow) → (others : List FilesBelow) → Type 0) : Type 0 where
    pub own : FilesBelow
    pub others : List FilesBelow
    pub below : AreFilesBelow lists gives leaves_out root own
    pub below_each : AllZip (AreFilesBelow lists gives leaves_out) roots others
    pub holds : Holds own others

  -- the tree of these files, and what was left out
  abbrev pub IsTreeBelow : List TreeFile → (unread : List Unread) → Type 0
  IsTreeBelow tree unread = OfFiles (AreLoaded leaves_out tree unread)

  -- the same, with the paths of the files below the root, and of those below each included root
  abbrev pub IsLoadedBelow : List TreeFile → (own : List (List ℕ)) → (others : List (List (List ℕ)))
      → (unread : List Unread) → Type 0
  IsLoadedBelow tree own others unread =
      OfFiles (λ here each. AreLoaded leaves_out tree unread here each × (own ≡ paths_of here.files)
      × (others ≡ map (λ (below : FilesBelow). paths_of below.files) each))

  -- this holds of the files that are taken of all
  abbrev pub OfAllTaken : (Holds : (sources included : List SourceFile) → Type 0) → Type 0
  OfAllTaken Holds = OfFiles (λ own others. OfTaken leaves_out own others (λ sources included bad. Holds sources included))

  -- why there is no tree: something can't be read, the first of all; or these files make none; nothing is said about
  -- memory
  abbrev pub MayNotLoad : LoadFault → Type 0
  MayNotLoad (Unreadable name) = IsUnreadableBelow lists gives leaves_out (root ∷ roots) (string_bytes name)
  MayNotLoad TooMany = OfAllTaken AreTooMany
  MayNotLoad (BadPath path) = OfAllTaken (HasBadPath (string_bytes path))
  MayNotLoad (SamePath path) = OfAllTaken (HasSamePath (string_bytes path))
  MayNotLoad Memory = ⊤
