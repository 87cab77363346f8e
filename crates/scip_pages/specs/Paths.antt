-- Paths of pages: those paths of documents that lead to one place each, below the folder of the pages.
use Rattle.std.specs.Prelude.{ℕ, ◌==◌, Bool, not, ◌&&◌, cond, List, [], ◌∷◌, ◌++◌, length, take, ◌-◌, nat_eq, codes}
use Rattle.std.specs.List.{list_any, slice_split, starts_with}
use Rattle.std.specs.Str.{bytes_eq}

-- what is between the slashes of a path, and before and after them
abbrev pub components : List ℕ → List (List ℕ)
components path = slice_split (λ b. b == 47) path

-- whether one of them is a name
abbrev pub has_name : List ℕ → List ℕ → Bool
has_name name path = list_any (λ (other : List ℕ). bytes_eq other name) (components path)

-- A document's path is that of a page if it doesn't begin with a slash, and if each component has a character and
-- is neither `.` nor `..`.
abbrev pub is_path_below : List ℕ → Bool
is_path_below path =
    not (starts_with nat_eq path (codes "/"))
    && not (has_name (codes "") path) && not (has_name (codes ".") path) && not (has_name (codes "..") path)

-- Where a name leads from a folder, which is the list of the names from the root to it. The root is its own parent.
-- (POSIX, XBD 4.16 "Pathname Resolution", if nothing on the way is a link)
abbrev pub entered : List (List ℕ) → List ℕ → List (List ℕ)
entered folder name =
    cond (bytes_eq name (codes "")) folder
    (cond (bytes_eq name (codes ".")) folder
    (cond (bytes_eq name (codes "..")) (take (length folder - 1) folder) (folder ++ name ∷ [])))

abbrev pub entered_all : List (List ℕ) → List (List ℕ) → List (List ℕ)
entered_all folder [] = folder
entered_all folder (name ∷ names) = entered_all (entered folder name) names

-- where a path leads from a folder
abbrev pub place_of : List (List ℕ) → List ℕ → List (List ℕ)
place_of folder path = entered_all (cond (starts_with nat_eq path (codes "/")) [] folder) (components path)
