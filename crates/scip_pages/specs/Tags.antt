-- What a reader of HTML makes of the marks of a page: tags with their attributes.
-- (HTML Standard, 13.2.5 "Tokenization", of pages without comments whose attributes have their values between double
-- quotes, or have none)
use Rattle.std.specs.Prelude.{ℕ, ◌==◌, Bool, ◌||◌, cond, List, [], ◌∷◌, ◌++◌, codes, map, filter}
use Rattle.std.specs.List.{flat_map}
use Rattle.std.specs.Str.{bytes_eq}
use Rattle.scip_pages.specs.Plain.{plain}

pub record Attribute : Type 0 where
  pub name : List ℕ
  pub value : List ℕ

-- a tag; the name of an end tag begins with a slash
pub record Tag : Type 0 where
  pub name : List ℕ
  pub attributes : List Attribute

abbrev pub bare : List ℕ → Tag
bare name = record { name = name; attributes = [] }

abbrev pub tag_with : Tag → (name value : List ℕ) → Tag
tag_with tag name value =
    record { name = tag.name; attributes = tag.attributes ++ record { name = name; value = value } ∷ [] }

-- Where a reader is: in text, in the name of a tag, behind it or in the name of an attribute, or in a value.
-- (13.2.5.1 "Data state", 13.2.5.8 "Tag name state", 13.2.5.33 "Attribute name state", 13.2.5.36 "Attribute value
-- (double-quoted) state")
pub data State : Type 0 where
  Data : State
  TagName : (name : List ℕ) → State
  AttributeName : (tag : Tag) (name : List ℕ) → State
  Value : (tag : Tag) (name value : List ℕ) → State

-- where it is behind a byte: `<` begins a tag, `>` ends it, blanks are before attributes, `=` and quotes round a value
abbrev pub next : State → ℕ → State
next Data b = cond (b == 60) (TagName []) Data
next (TagName name) b =
    cond (b == 62) Data (cond (b == 32) (AttributeName (bare name) []) (TagName (name ++ b ∷ [])))
next (AttributeName tag name) b =
    cond (b == 62) Data
    (cond (b == 32) (AttributeName tag [])
    (cond (b == 61) (AttributeName tag name)
    (cond (b == 34) (Value tag name []) (AttributeName tag (name ++ b ∷ [])))))
next (Value tag name value) b =
    cond (b == 34) (AttributeName (tag_with tag name (plain value)) []) (Value tag name (value ++ b ∷ []))

-- the tag that a byte ends
abbrev pub ended : State → ℕ → List Tag
ended Data b = []
ended (TagName name) b = cond (b == 62) (bare name ∷ []) []
ended (AttributeName tag name) b = cond (b == 62) (tag ∷ []) []
ended (Value tag name value) b = []

abbrev pub tags_behind : State → List ℕ → List Tag
tags_behind state [] = []
tags_behind state (b ∷ bytes) = ended state b ++ tags_behind (next state b) bytes

-- the tags of a page, one after another
abbrev pub tags_of : List ℕ → List Tag
tags_of page = tags_behind Data page

-- ---- ids and URLs

-- (3.2.6 "Global attributes"; 4.6.1 "Links", 4.2.4 "The link element", 4.12.1 "The script element")
abbrev pub is_id : Attribute → Bool
is_id a = bytes_eq a.name (codes "id")

abbrev pub is_url : Attribute → Bool
is_url a = bytes_eq a.name (codes "href") || bytes_eq a.name (codes "src")

abbrev pub values_of : (Attribute → Bool) → Tag → List (List ℕ)
values_of test tag = map (λ (a : Attribute). a.value) (filter test tag.attributes)

-- the ids of a page's elements
abbrev pub ids_of : List ℕ → List (List ℕ)
ids_of page = flat_map (values_of is_id) (tags_of page)

-- the URLs that stand in a page
abbrev pub urls_of : List ℕ → List (List ℕ)
urls_of page = flat_map (values_of is_url) (tags_of page)
