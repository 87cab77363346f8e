-- Laws of URLs of pages.
use Rattle.std.specs.Prelude.{ℕ, ◌≡◌, ◌<◌, true, List, ◌++◌}
use Rattle.std.specs.List.{AllByRecursion}
use Rattle.scip_pages.specs.Paths.{components, is_path_below, place_of}
use Rattle.scip_pages.specs.Urls.{encoded, ups, decoded, folder_of}

-- What a reader makes of an encoded path is the path.
abbrev pub IsDecoded : Type 0
IsDecoded = (path : List ℕ) → AllByRecursion (λ b. b < 256) path → decoded (encoded path) ≡ path

-- From the folder of a page a path after the ways up leads where it leads from the folder of all pages.
abbrev pub LeadsToThePage : Type 0
LeadsToThePage =
    (root : List (List ℕ)) (from to : List ℕ) → is_path_below to ≡ true
    → place_of (root ++ folder_of from) (ups from ++ to) ≡ root ++ components to
