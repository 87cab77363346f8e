-- What a reader makes of the tree of folders: those that are open round each link.
use Rattle.std.specs.Prelude.{ℕ, ◌-◌, List, [], ◌∷◌, ◌++◌, cond, codes, length, map, take}
use Rattle.std.specs.Str.{bytes_eq}
use Rattle.scip_pages.specs.Urls.{encoded, folder_of}
use Rattle.scip_pages.specs.Crumbs.{folder_id, folders_on}
use Rattle.scip_pages.specs.Site.{page_path}
use Rattle.scip_pages.specs.Tags.{Tag, is_id, is_url, values_of}

-- a link, and the ids of the folders that are open round it, the outermost first
pub record Leaf : Type 0 where
  pub folders : List (List ℕ)
  pub url : List ℕ

-- what is open behind a tag: `details` opens a folder, its end closes the innermost
-- (HTML Standard, 4.11.1 "The details element")
abbrev pub open_behind : List (List ℕ) → Tag → List (List ℕ)
open_behind open_ tag =
    cond (bytes_eq tag.name (codes "details")) (open_ ++ values_of is_id tag)
    (cond (bytes_eq tag.name (codes "/details")) (take (length open_ - 1) open_) open_)

abbrev pub all_open : List (List ℕ) → List Tag → List (List ℕ)
all_open open_ [] = open_
all_open open_ (tag ∷ tags) = all_open (open_behind open_ tag) tags

-- the link that a tag begins
abbrev pub leaves_in : List (List ℕ) → Tag → List Leaf
leaves_in open_ tag =
    cond (bytes_eq tag.name (codes "a"))
    (map (λ (url : List ℕ). record { folders = open_; url = url }) (values_of is_url tag)) []

abbrev pub leaves_behind : List (List ℕ) → List Tag → List Leaf
leaves_behind open_ [] = []
leaves_behind open_ (tag ∷ tags) = leaves_in open_ tag ++ leaves_behind (open_behind open_ tag) tags

-- the folders of a document, and the link to its page
abbrev pub open_on : List ℕ → List (List ℕ)
open_on path = map folder_id (folders_on [] (folder_of path))

abbrev pub leaf_of : List ℕ → Leaf
leaf_of path = record { folders = open_on path; url = encoded (page_path path) }
