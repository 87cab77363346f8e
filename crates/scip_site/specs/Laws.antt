-- Laws of the places of pages.
use Rattle.std.specs.Prelude.{ℕ, ◌≡◌, ◌<◌, true, List, [], map, Some}
use Rattle.std.specs.List.{AllByRecursion, slice_get}
use Rattle.scip_pages.specs.Paths.{is_path_below}
use Rattle.scip_pages.specs.Urls.{folder_of}
use Rattle.scip_pages.specs.Crumbs.{folder_id, folders_on}
use Rattle.scip_pages.specs.Site.{page_path}
use Rattle.scip_pages.specs.Ids.{HasId}
use Rattle.scip_pages.specs.Tags.{tags_of}
use Rattle.scip_site.specs.Nesting.{all_open, leaf_of, leaves_behind}
use Rattle.scip_site.specs.Tree.{first_page}

-- The path of a page is one below the folder of all pages if that of its document is. So it leads to a place there, by
-- a URL too (`PathLaws` and `UrlLaws` of `scip_pages`),
abbrev pub HasAGoodPath : Type 0
HasAGoodPath = (path : List ℕ) → is_path_below path ≡ true → is_path_below (page_path path) ≡ true

-- and no page has the path of another.
abbrev pub HasItsOwnPath : Type 0
HasItsOwnPath = (path other : List ℕ) → page_path path ≡ page_path other → path ≡ other

-- The first page has the id of each folder of a document that it lists, which ends the URL of the folder on the way to
-- the document's page (`folder_url`),
abbrev pub FoldersHavePlaces : Type 0
FoldersHavePlaces =
    (paths : List (List ℕ)) (number at : ℕ) (path folder : List ℕ)
    → slice_get paths number ≡ Some path → slice_get (folders_on [] (folder_of path)) at ≡ Some folder
    → HasId (folder_id folder) (first_page paths)

-- which is no other folder's.
abbrev pub FoldersHaveTheirOwnIds : Type 0
FoldersHaveTheirOwnIds =
    (folder other : List ℕ) → AllByRecursion (λ b. b < 256) folder → AllByRecursion (λ b. b < 256) other
    → folder_id folder ≡ folder_id other → folder ≡ other

-- Round the link to the page of each document in the tree the folders on its way are open, and no others; behind the
-- tree none is.
abbrev pub TreeShowsFolders : Type 0
TreeShowsFolders =
    (paths : List (List ℕ))
    → (leaves_behind [] (tags_of (first_page paths)) ≡ map leaf_of paths)
    × (all_open [] (tags_of (first_page paths)) ≡ [])
