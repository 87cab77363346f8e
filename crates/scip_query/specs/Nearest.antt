-- Of several definitions of a file, those that are nearest to the document in which it is asked for. (These symbols are
-- this project's own.)
use Rattle.std.specs.Prelude.{ℕ, zero, suc, Bool, ◌&&◌, ◌||◌, nat_eq, nat_le, cond, List, [], ◌++◌, length, take, drop}
use Rattle.std.specs.Prelude.{Result, filter, codes}
use Rattle.std.specs.List.{starts_with, ends_with, list_all}
use Rattle.std.specs.Result.{result_map_both}
use Rattle.std.specs.Str.{bytes_eq}
use Rattle.scip_records.specs.declared.records.Index.{Index}
use Rattle.scip_records.specs.declared.records.Document.{Document}
use Rattle.scip_query.specs.declared.miss.Miss.{Miss}
use Rattle.scip_query.specs.declared.place.Place.{Place}
use Rattle.scip_query.specs.declared.position.Position.{Position}
use Rattle.scip_query.specs.References.{definitions_at}
use Rattle.scip_query.specs.Sites.{Site}
use Rattle.scip_query.specs.Tables.{path_listed, symbol_listed}

-- the symbol is that of a file with this path below its root: behind the package one namespace
abbrev pub names_file : (symbol path : List ℕ) → Bool
names_file symbol path =
    starts_with nat_eq symbol (codes "scip-protobuf ") && ends_with nat_eq symbol (codes " `" ++ path ++ codes "`/")

-- nothing, or the path of a folder and `/`
abbrev pub is_folder : List ℕ → Bool
is_folder text = bytes_eq text [] || ends_with nat_eq text (codes "/")

-- The first so many bytes of a document's path are the root of the file that the symbol names, and the path that is
-- asked in is below that, too.
abbrev pub is_root : (asked path symbol : List ℕ) → (count : ℕ) → Bool
is_root asked path symbol count =
    is_folder (take count path)
    && (starts_with nat_eq asked (take count path) && names_file symbol (drop count path))

-- one more than the greatest number below this for which it holds; 0 if there is none
abbrev pub greatest_below : (ℕ → Bool) → ℕ → ℕ
greatest_below holds zero = zero
greatest_below holds (suc n) = cond (holds n) (suc n) (greatest_below holds n)

-- how near a document is: the longer such a root, the nearer
abbrev pub nearness : (asked path symbol : List ℕ) → ℕ
nearness asked path symbol = greatest_below (is_root asked path symbol) (length path)

abbrev pub nearness_of : (asked : List ℕ) → Site → ℕ
nearness_of asked site = nearness asked site.document.relative_path site.occurrence.symbol

-- Those sites than which none is nearer. So if no such root is known of any, these are all.
abbrev pub nearest : (asked : List ℕ) → List Site → List Site
nearest asked sites =
    filter (λ site. list_all (λ other. nat_le (nearness_of asked other) (nearness_of asked site)) sites) sites

-- of the definitions of what is at a position of the document that a path names
abbrev pub nearest_at : Index → (path : List ℕ) → Position → Result (List Site) Miss
nearest_at index path p = result_map_both (nearest path) (λ miss. miss) (definitions_at index path p)

-- how near what is listed at a place is (no clause of a public function names it)
abbrev pub nearness_listed : List Document → (asked : List ℕ) → Place → ℕ
nearness_listed documents asked place =
    nearness asked (path_listed documents place.document) (symbol_listed documents place)
