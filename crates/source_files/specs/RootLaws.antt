-- What leaving out doesn't change.
use Rattle.std.specs.Prelude.{◌≡◌, ◌↔◌, ℕ, true, false, List, [], Option}
use Rattle.source_files.specs.Listings.{Listing}
use Rattle.source_files.specs.Roots.{AreFilesBelow, FilesBelow}

-- Where nothing was left out below a root, its files are the same whether what can't be read is to be left out or not.
abbrev pub WholeRoots : (List ℕ → List ℕ → Option Listing → Type 0) → (List ℕ → Option (List ℕ) → Type 0) → Type 0
WholeRoots lists gives = (root : List ℕ) (below : FilesBelow) → below.unread ≡ []
    → AreFilesBelow lists gives false root below ↔ AreFilesBelow lists gives true root below
