-- Laws of paths of pages.
use Rattle.std.specs.Prelude.{ℕ, ◌≡◌, ◌≢◌, true, List, ◌++◌, codes}
use Rattle.std.specs.List.{AllByRecursion}
use Rattle.scip_pages.specs.Paths.{components, is_path_below, place_of}

-- The path of a page leads from a folder to a place below it: through no name but its own.
abbrev pub StaysBelow : Type 0
StaysBelow = (folder : List (List ℕ)) (path : List ℕ) → is_path_below path ≡ true
    → place_of folder path ≡ folder ++ components path

-- Two such paths that lead to one place are one path.
abbrev pub HasItsOwnPlace : Type 0
HasItsOwnPlace =
    (folder : List (List ℕ)) (path other : List ℕ)
    → is_path_below path ≡ true → is_path_below other ≡ true → place_of folder path ≡ place_of folder other
    → path ≡ other

-- A name is neither empty nor `.` nor `..`,
abbrev pub IsName : List ℕ → Type 0
IsName name = (name ≢ codes "") × (name ≢ codes ".") × (name ≢ codes "..")

-- and a path whose components are names is that of a page.
abbrev pub NamesLeadBelow : Type 0
NamesLeadBelow = (path : List ℕ) → AllByRecursion IsName (components path) → is_path_below path ≡ true
