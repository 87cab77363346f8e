-- What a tree is: the sources, which are indexed, and the included files, which are only linked (the profile's).
use Rattle.std.specs.Prelude.{◌≡◌, ◌≢◌, ◌↔◌, ℕ, ◌+◌, ◌<◌, ◌≤◌, true, false, List, ◌∷◌, ◌++◌, Some, length, slice_get}
use Rattle.std.specs.Prelude.{All, AllPairs, Contains}
use Rattle.std.specs.List.Sorted.{IsStrictlySortedBy}
use Rattle.source_tree.specs.Path.{IsGoodPath}
use Rattle.source_tree.specs.Files.{SourceFile, TreeFile, in_tree, paths_of, HasPath, file_cmp}

-- the most files of a tree, the sources and the included ones together
abbrev pub max_files : ℕ
max_files = 65536

-- no two files have one path
abbrev pub HaveOwnPaths : List TreeFile → Type 0
HaveOwnPaths files = (i j : ℕ) (a b : TreeFile) → slice_get files i ≡ Some a → slice_get files j ≡ Some b
    → a.path ≡ b.path → i ≡ j

-- What holds of the files of any tree, which are told by their numbers in a list: the sources by path, and then the
-- included files by path.
pub record IsTree (files : List TreeFile) : Type 0 where
  pub few : length files ≤ max_files
  pub good : All (λ file. IsGoodPath file.path) files
  pub own : HaveOwnPaths files
  pub rising : IsStrictlySortedBy file_cmp files

-- how many of the files are sources: their numbers are those below this one
pub record IsSourceCount (files : List TreeFile) (count : ℕ) : Type 0 where
  pub within : count ≤ length files
  pub sources : (number : ℕ) (file : TreeFile) → slice_get files number ≡ Some file → (number < count)
      ↔ (file.is_included ≡ false)

-- An included file counts if it is the first listed of its path, and no source has the path.
pub record IsFirstOfPath (sources included : List SourceFile) (file : SourceFile) : Type 0 where
  pub before : List SourceFile
  pub behind : List SourceFile
  pub listed : included ≡ before ++ file ∷ behind
  pub first : ¬ (HasPath before file.path)
  pub apart : ¬ (HasPath sources file.path)

-- the files that the tree of these lists has: each source, and each included file that counts
pub data IsFileOf (sources included : List SourceFile) : TreeFile → Type 0 where
  of_source : {file : SourceFile} → Contains sources file → IsFileOf sources included (in_tree false file)
  of_included : {file : SourceFile} → IsFirstOfPath sources included file → IsFileOf sources included
      (in_tree true file)

abbrev pub HaveGoodPaths : List SourceFile → Type 0
HaveGoodPaths files = All (λ file. IsGoodPath file.path) files

-- the tree of sources and included files: just these lists have one of which this holds
pub record IsTreeOf (sources included : List SourceFile) (files : List TreeFile) : Type 0 where
  pub few : length sources + length included ≤ max_files
  pub good : HaveGoodPaths (sources ++ included)
  pub apart : AllPairs (λ path other. path ≢ other) (paths_of sources)
  pub whole : (file : TreeFile) → Contains files file ↔ IsFileOf sources included file
  pub rising : IsStrictlySortedBy file_cmp files
