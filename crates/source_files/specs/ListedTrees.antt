-- The tree of the sources that a list names, and of the files that they reach; and why there is none.
use Rattle.std.specs.Prelude.{◌≡◌, ◌⊎◌, ◌==◌, ℕ, ⊤, Bool, false, List, ◌∷◌, ◌++◌, Option, map, take, All}
use Rattle.std.specs.Prelude.{◌-◌, length, string_bytes}
use Rattle.std.specs.List.{filter, range_with_len}
use Rattle.source_tree.specs.Files.{SourceFile, TreeFile}
use Rattle.source_tree.specs.Refusals.{AreTooMany}
use Rattle.source_tree.specs.Trees.{IsTreeOf}
use Rattle.source_files.specs.declared.load_fault.LoadFault.{LoadFault}
use Rattle.source_files.specs.declared.load_fault.LoadFault.TheVariants.{Unreadable, TooMany, BadPath, SamePath, Memory}
use Rattle.source_files.specs.Loads.{HasBadPath, HasSamePath}
use Rattle.source_files.specs.Roots.{unread_file}
use Rattle.source_files.specs.Unread.{Unread, at_path}
use Rattle.source_files.specs.Walks.{AreEachOnce, AreOnce}
use Rattle.source_files.specs.Reached.{AreIncluded, AreSources, CantBeRead, HasNone, Import, IsTold, MayNotInclude, Told}
use Rattle.source_files.specs.Reached.{path_of}

abbrev pub files_of : List Told → List SourceFile
files_of all = map (λ told. told.file) all

-- and behind them what has these paths and can't be read
abbrev pub files_with : List Told → (unread : List (List ℕ)) → List SourceFile
files_with all unread = files_of all ++ map unread_file unread

-- the paths of the files that are below the root with a number
abbrev pub paths_at : (root : ℕ) → List Told → List (List ℕ)
paths_at root all = map path_of (filter (λ told. told.root == root) all)

-- those below each of so many roots but the first
abbrev pub paths_behind : (roots : ℕ) → List Told → List (List (List ℕ))
paths_behind roots all = map (λ number. paths_at number all) (range_with_len 1 (roots - 1))

-- the tree of sources and included files, what was left out of both, and the paths of the files below the
-- first root, and below each other one
pub record AreInTree (roots : ℕ) (sources included : List Told) (lost left : List (List ℕ))
    (tree : List TreeFile) (own : List (List ℕ)) (others : List (List (List ℕ))) (unread : List Unread) : Type 0 where
  pub tree_is : IsTreeOf (files_with sources lost) (files_with included left) tree
  pub own_are : own ≡ paths_at 0 sources ++ paths_at 0 included
  pub others_are : others ≡ paths_behind roots included
  pub unread_are : AreEachOnce (map at_path (lost ++ left)) unread

module _ (finds : List ℕ → List ℕ → Bool → Type 0) (gives : List ℕ → Option (List ℕ) → Type 0)
    (tells : List ℕ → List Import → Type 0)
    (leaves_out : Bool) where
  -- the first of these paths where no source is, or one that can't be read
  pub record IsFirstLost (roots paths : List (List ℕ)) (name : List ℕ) : Type 0 where
    pub sources : List Told
    pub behind : List (List ℕ)
    pub paths_are : paths ≡ map path_of sources ++ name ∷ behind
    pub told : All (IsTold finds gives tells roots) sources
    pub lacking : CantBeRead finds gives roots name ⊎ HasNone finds roots name

  -- why the sources with these paths aren't read; nothing is said about memory
  abbrev pub MayNotFind : (roots paths : List (List ℕ)) → LoadFault → Type 0
  MayNotFind roots paths (Unreadable name) = (leaves_out ≡ false) × IsFirstLost roots paths (string_bytes name)
  MayNotFind roots paths Memory = ⊤
  MayNotFind roots paths other = ⊥

  module _ (roots listed : List (List ℕ)) where
    -- this holds of the sources that are listed, below the first root; and of what is left out of them
    pub record OfSources (Holds : (once : List (List ℕ)) → (sources : List Told) → (lost : List (List ℕ)) → Type 0)
        : Type 0 where
      pub once : List (List ℕ)
      pub sources : List Told
      pub lost : List (List ℕ)
      pub once_are : AreOnce listed once
      pub sources_are : AreSources finds gives tells leaves_out (take 1 roots) once sources lost
      pub holds : Holds once sources lost

  -- where names in options are linked, or not
  module _ (links_options : Bool) (roots listed : List (List ℕ)) where
    -- and this of them and the files that they reach, below all roots
    pub record AreReachedWith (Holds : (sources included : List Told) → (lost left : List (List ℕ)) → Type 0)
        (once : List (List ℕ)) (sources : List Told) (lost : List (List ℕ)) : Type 0 where
      pub included : List Told
      pub left : List (List ℕ)
      pub included_are : AreIncluded finds gives tells leaves_out links_options roots once sources included left
      pub holds : Holds sources included lost left

    abbrev pub OfListed : (Holds : (sources included : List Told) → (lost left : List (List ℕ)) → Type 0) → Type 0
    OfListed Holds = OfSources roots listed (AreReachedWith Holds)

    -- the tree
    abbrev pub IsTreeListed : List TreeFile → (own : List (List ℕ)) → (others : List (List (List ℕ)))
        → (unread : List Unread) → Type 0
    IsTreeListed tree own others unread =
        OfListed (λ sources included lost left. AreInTree (length roots) sources included lost left tree own others
        unread)

    -- Why there is none: a source can't be read, or isn't there, the first by path; a file that sources reach can't be;
    -- or these files make no tree. Nothing is said about memory.
    abbrev pub MayNotLoadListed : LoadFault → Type 0
    MayNotLoadListed (Unreadable name) =
        ((once : List (List ℕ)) × AreOnce listed once × MayNotFind (take 1 roots) once (Unreadable name))
        ⊎ OfSources roots listed (λ once sources lost. MayNotInclude finds gives tells leaves_out links_options roots
        once sources (Unreadable name))
    MayNotLoadListed TooMany =
        OfSources roots listed (λ once sources lost. MayNotInclude finds gives tells leaves_out links_options roots once
        sources TooMany)
        ⊎ OfListed (λ sources included lost left. AreTooMany (files_with sources lost) (files_with included left))
    MayNotLoadListed (BadPath path) =
        OfListed (λ sources included lost left. HasBadPath (string_bytes path) (files_with sources lost)
        (files_with included left))
    MayNotLoadListed (SamePath path) =
        OfListed (λ sources included lost left. HasSamePath (string_bytes path) (files_with sources lost)
        (files_with included left))
    MayNotLoadListed Memory = ⊤
