-- The way from the first page to a page.
use Rattle.std.specs.Prelude.{ℕ, List, [], ◌∷◌, ◌++◌, codes}
use Rattle.scip_pages.specs.Code.{attribute}
use Rattle.scip_pages.specs.Escapes.{escape}
use Rattle.scip_pages.specs.Paths.{components}
use Rattle.scip_pages.specs.Urls.{encoded, ups}
use Rattle.scip_pages.specs.Marks.{link}

-- a file in the folder of all pages, as the page `from` names it
abbrev pub file_url : (from file : List ℕ) → List ℕ
file_url from file = ups from ++ file

-- The id of a folder on the first page. It is encoded, so that it is the fragment of the folder's URL as it stands
-- there. (HTML Standard, 7.4.6.4 "Scrolling to a fragment": first an id is looked for that is the fragment, and only
-- then one that is what the fragment encodes.)
abbrev pub folder_id : List ℕ → List ℕ
folder_id folder = codes "d/" ++ encoded folder

abbrev pub folder_url : (from folder : List ℕ) → List ℕ
folder_url from folder = file_url from (codes "index.html") ++ (codes "#" ++ folder_id folder)

-- the folders on a way, each with those above it
abbrev pub folders_on : (above : List ℕ) → List (List ℕ) → List (List ℕ)
folders_on above [] = []
folders_on above (name ∷ names) = (above ++ name) ∷ folders_on (above ++ name ++ codes "/") names

-- A folder on the way is a link; the last name is that of the page.
abbrev pub last_text : List ℕ → List ℕ
last_text name = codes "<b>" ++ escape name ++ codes "</b>"

abbrev pub folder_text : (from folder name : List ℕ) → List ℕ
folder_text from folder name = link (folder_url from folder) name ++ codes "/<wbr>"

abbrev pub name_text : (from folder name : List ℕ) → List (List ℕ) → List ℕ
name_text from folder name [] = last_text name
name_text from folder name (other ∷ others) = folder_text from folder name

abbrev pub names_text : (from folder : List ℕ) → List (List ℕ) → List ℕ
names_text from folder [] = []
names_text from folder (name ∷ names) =
    name_text from (folder ++ name) name names ++ names_text from ((folder ++ name) ++ codes "/") names

abbrev pub crumbs_text : (from path : List ℕ) → List ℕ
crumbs_text from path =
    codes "<header><nav>" ++ link (file_url from (codes "index.html")) (codes "All sources") ++ codes " <span>"
    ++ names_text from [] (components path) ++ codes "</span></nav></header>\n"

-- what a page begins with (HTML Standard, 4.2 "Document metadata")
abbrev pub style_text : List ℕ → List ℕ
style_text from =
    codes "<link rel=\"stylesheet\"" ++ attribute (codes "href") (file_url from (codes "pages.css")) ++ codes ">\n"

abbrev pub head_text : (from title : List ℕ) → List ℕ
head_text from title =
    codes "<!DOCTYPE html>\n<html lang=\"en\">\n<head>\n<meta charset=\"utf-8\">\n"
    ++ codes "<meta name=\"viewport\" content=\"width=device-width, initial-scale=1\">\n<title>" ++ escape title
    ++ codes "</title>\n" ++ style_text from ++ codes "</head>\n<body>\n"
