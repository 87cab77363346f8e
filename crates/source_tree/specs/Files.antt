-- Files: as they are handed in, and as a tree has them.
use Rattle.std.specs.Prelude.{◌≡◌, ℕ, ◌<◌, Bool, List, Some, map, Contains, slice_get, IsPermutation}
use Rattle.std.specs.declared.cmp.Ordering.{Ordering}
use Rattle.std.specs.Ordering.{nat_cmp, bool_cmp, ordering_then}
use Rattle.std.specs.Cmp.Lexicographic.{slice_cmp}
use Rattle.std.specs.List.Sorted.{IsSorted, IsStable}

-- a file that is handed in: its path below its root, its bytes, and whether it couldn't be read, so that what it holds
-- isn't known
pub record SourceFile : Type 0 where
  pub path : List ℕ
  pub bytes : List ℕ
  pub is_unread : Bool

-- a file of a tree: the same, what is read of its bytes, and whether it is included; a file that isn't included is a
-- source
pub record TreeFile : Type 0 where
  pub path : List ℕ
  pub bytes : List ℕ
  pub text : List ℕ
  pub is_included : Bool
  pub is_unread : Bool

-- of a file that is handed in, its bytes are read as they are
abbrev pub in_tree : Bool → SourceFile → TreeFile
in_tree included file =
    record {
      path = file.path;
      bytes = file.bytes;
      text = file.bytes;
      is_included = included;
      is_unread = file.is_unread;
    }

abbrev pub paths_of : List SourceFile → List (List ℕ)
paths_of files = map (λ file. file.path) files

-- some file of the list has this path
abbrev pub HasPath : List SourceFile → List ℕ → Type 0
HasPath files path = Contains (paths_of files) path

-- by path; texts are ordered by their bytes
abbrev pub path_cmp : SourceFile → SourceFile → Ordering
path_cmp a b = slice_cmp nat_cmp a.path b.path

-- sources before included files, and each of these by path
abbrev pub file_cmp : TreeFile → TreeFile → Ordering
file_cmp a b = ordering_then (bool_cmp a.is_included b.is_included) (slice_cmp nat_cmp a.path b.path)

-- the list sorted by path; files with one path are in the order in which they were handed in
pub record IsByPath (files sorted : List SourceFile) : Type 0 where
  pub complete : IsPermutation files sorted
  pub ascends : IsSorted path_cmp sorted
  pub stable : IsStable path_cmp files sorted

-- the file with this number has the path of an earlier one
pub record RepeatsAPath (files : List SourceFile) (number : ℕ) : Type 0 where
  pub earlier : ℕ
  pub before : earlier < number
  pub first : SourceFile
  pub second : SourceFile
  pub numbered_first : slice_get files earlier ≡ Some first
  pub numbered_second : slice_get files number ≡ Some second
  pub same : first.path ≡ second.path
