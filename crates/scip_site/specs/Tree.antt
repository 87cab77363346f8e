-- The first page: the tree of folders.
use Rattle.std.specs.Prelude.{ℕ, ◌+◌, ◌-◌, ◌==◌, Bool, false, cond, List, [], ◌∷◌, ◌++◌, codes, length, take, Option}
use Rattle.std.specs.Prelude.{None, Some}
use Rattle.std.specs.List.{flat_map, range_with_len, slice_get}
use Rattle.std.specs.Str.{bytes_eq}
use Rattle.scip_pages.specs.Code.{attribute}
use Rattle.scip_pages.specs.Escapes.{escape}
use Rattle.scip_pages.specs.Paths.{components}
use Rattle.scip_pages.specs.Urls.{encoded, folder_of}
use Rattle.scip_pages.specs.Marks.{link}
use Rattle.scip_pages.specs.Site.{page_path}
use Rattle.scip_pages.specs.CodeText.{line_at}
use Rattle.scip_pages.specs.Crumbs.{folder_id, head_text}

-- how many of the first names of two ways are the same
abbrev pub common : (open_ names : List (List ℕ)) → ℕ
common [] names = 0
common (a ∷ open_) [] = 0
common (a ∷ open_) (b ∷ names) = cond (bytes_eq a b) (common open_ names + 1) 0

-- whether those with one number are
abbrev pub is_name : List ℕ → Option (List ℕ) → Bool
is_name name None = false
is_name name (Some other) = bytes_eq name other

abbrev pub same_or_not : Option (List ℕ) → List (List ℕ) → ℕ → Bool
same_or_not None names at = false
same_or_not (Some name) names at = is_name name (slice_get names at)

abbrev pub same_at : (open_ names : List (List ℕ)) → ℕ → Bool
same_at open_ names at = same_or_not (slice_get open_ at) names at

-- the ends of so many folders
abbrev pub closes : ℕ → List ℕ
closes count = flat_map (λ (n : ℕ). codes "</ul></details></li>\n") (range_with_len 0 count)

-- A folder with a name, below the path `above`; those on top are open. (HTML Standard, 4.11.1 "The details element")
abbrev pub is_open : List ℕ → List ℕ
is_open above = cond (length above == 0) (codes " open") []

abbrev pub open_text : (above name : List ℕ) → List ℕ
open_text above name =
    codes "<li><details" ++ attribute (codes "id") (folder_id (above ++ name)) ++ is_open above ++ codes "><summary>"
    ++ escape name ++ codes "/</summary><ul>\n"

-- the folders on a way, but so many of the first, which are there
abbrev pub open_or_none : ℕ → (above name : List ℕ) → List ℕ
open_or_none kept above name = cond (kept == 0) (open_text above name) []

abbrev pub opens : ℕ → (above : List ℕ) → List (List ℕ) → List ℕ
opens kept above [] = []
opens kept above (name ∷ names) =
    open_or_none kept above name ++ opens (kept - 1) (above ++ name ++ codes "/") names

-- the last name of a way
abbrev pub last_of : List (List ℕ) → List ℕ
last_of names = line_at names (length names - 1)

-- the page of a document, the names on whose path are known
abbrev pub leaf_with : (path : List ℕ) (names : List (List ℕ)) → List ℕ
leaf_with path names = codes "<li>" ++ link (encoded (page_path path)) (last_of names) ++ codes "</li>\n"

-- all names but the last
abbrev pub but_last : List (List ℕ) → List (List ℕ)
but_last names = take (length names - 1) names

-- behind some folders a document: those that it isn't in end, and those that it is in begin
abbrev pub step_with : (open_ : List (List ℕ)) (path : List ℕ) (names : List (List ℕ)) → List ℕ
step_with open_ path names =
    closes (length open_ - common open_ (but_last names)) ++ opens (common open_ (but_last names)) [] (but_last names)
    ++ leaf_with path names

abbrev pub step : (before path : List ℕ) → List ℕ
step before path = step_with (folder_of before) path (components path)

-- paths behind a path, and the ends of what is open
abbrev pub tree : List ℕ → List (List ℕ) → List ℕ
tree before [] = closes (length (folder_of before))
tree before (path ∷ paths) = step before path ++ tree path paths

-- the search, and what it finds
abbrev pub search_text : List ℕ
search_text =
    codes "<header><nav><b>All sources</b></nav>\n"
    ++ codes "<search><input id=\"query\" type=\"search\" placeholder=\"Search symbols\" aria-label=\"Search symbols\""
    ++ codes " autocomplete=\"off\" spellcheck=\"false\"></search></header>\n"
    ++ codes "<main class=\"first\">\n<ul id=\"found\" aria-live=\"polite\"></ul>\n<ul id=\"tree\">\n"

-- the first page, over the paths of the documents that have pages
abbrev pub first_page : List (List ℕ) → List ℕ
first_page paths =
    head_text (codes "index.html") (codes "Sources") ++ search_text ++ tree [] paths ++ codes
    "</ul>\n</main>\n<script src=\"symbols.js\"></script>\n<script src=\"search.js\"></script>\n</body>\n</html>\n"
