-- Marks of a page.
use Rattle.std.specs.Prelude.{ℕ, List, ◌++◌, codes}
use Rattle.scip_pages.specs.Code.{attribute, mark}
use Rattle.scip_pages.specs.Escapes.{escape}

-- a link with a text (HTML Standard, 4.5.1 "The a element")
abbrev pub link : (url text : List ℕ) → List ℕ
link url text = mark (codes "a" ++ attribute (codes "href") url) ++ escape text ++ mark (codes "/a")
